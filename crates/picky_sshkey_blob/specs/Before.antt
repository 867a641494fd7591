-- Which 32 bytes stand before a copy of a public key, as a relation and as a reading.
use Rattle.std.specs.Prelude.{◌≡◌, List, ℕ, ◌++◌, ◌&&◌, nat_le, length}
use Rattle.std.specs.Prelude.{take, drop, bytes_eq, if◌then◌else◌, Result, Ok, Err}

-- the bytes are the 32 of the secret, and then the copy
abbrev pub StandsBefore : List ℕ → List ℕ → List ℕ → Type 0
StandsBefore public both secret = (both ≡ secret ++ public) × (length secret ≡ 32)

-- the secret of such bytes
abbrev pub read_before : {E : Type 0} → E → List ℕ → List ℕ → Result (List ℕ) E
read_before why public both =
    if nat_le 32 (length both) && bytes_eq (drop 32 both) public then Ok (take 32 both) else Err why
