-- The fields that the MAC of a PuTTY private key file covers, as one value.
use Rattle.std.specs.Prelude.{List, ℕ, ◌<◌, ◌^◌, length}
use Rattle.picky_ppk_parts.specs.Mac.{mac_input}

pub record MacFields : Type 0 where
  pub algorithm : List ℕ
  pub encryption : List ℕ
  pub comment : List ℕ
  pub public : List ℕ
  pub private : List ℕ

-- what the MAC covers
abbrev pub input_of : MacFields → List ℕ
input_of f = mac_input f.algorithm f.encryption f.comment f.public f.private

-- a length of the wire can say each field's
pub record AreShort (f : MacFields) : Type 0 where
  pub algorithm : length f.algorithm < 2 ^ 32
  pub encryption : length f.encryption < 2 ^ 32
  pub comment : length f.comment < 2 ^ 32
  pub public : length f.public < 2 ^ 32
  pub private : length f.private < 2 ^ 32
