-- What is fed to a hasher.
use Rattle.std.specs.Prelude.{List, ◌++◌, ℕ}
use Rattle.sha2.specs.declared.Sha256.{Sha256}
use Rattle.sha2.specs.Hashers.{Holds256}

-- a hasher that held a message holds it with the piece behind it
abbrev pub Feeds : (old new : Sha256) → (piece : List ℕ) → Type 0
Feeds old new piece = (m : List ℕ) → Holds256 old m → Holds256 new (m ++ piece)
