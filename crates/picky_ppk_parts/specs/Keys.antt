-- The keys that a passphrase makes in version 3 (PuTTY's manual, Appendix C).
use Rattle.std.specs.Prelude.{List, ℕ}

pub record Keys : Type 0 where
  pub key : List ℕ
  pub iv : List ℕ
  pub mac_key : List ℕ
