-- What a key is written under.
use Rattle.std.specs.Prelude.{List, ℕ, Option}

-- a passphrase, where what is written is sealed, and fresh bytes for the salt and the padding that sealing takes
pub record Output : Type 0 where
  pub pass : Option (List ℕ)
  pub fresh : List ℕ
