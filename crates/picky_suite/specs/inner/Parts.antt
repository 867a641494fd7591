-- The parts of 48 derived bytes.
use Rattle.std.specs.Prelude.{ℕ, List, take, drop}

-- a key of 32 bytes
unfoldable pub derived_key : List ℕ → List ℕ
derived_key derived = take 32 derived

-- and an iv of 16
unfoldable pub iv_of : List ℕ → List ℕ
iv_of derived = drop 32 derived
