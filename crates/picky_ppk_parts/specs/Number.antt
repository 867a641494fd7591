-- A secret of 32 bytes that is written as a number: as a relation and as a reading.
use Rattle.std.specs.Prelude.{◌≡◌, List, ℕ, ◌-◌, ◌++◌, nat_le, length, replicate, if◌then◌else◌, Result, Ok, Err}
use Rattle.picky_wire_base.specs.Zeros.{without_zeros}

-- the bytes are the number that the 32 of the secret are, most significant byte first
abbrev pub IsNumberOf : List ℕ → List ℕ → Type 0
IsNumberOf bytes secret = (length secret ≡ 32) × (without_zeros bytes ≡ without_zeros secret)

-- so many zeros before the number's bytes that they are 32
abbrev pub padded_number : List ℕ → List ℕ
padded_number number = replicate (32 - length number) 0 ++ number

-- the secret of such bytes, where they are no more than 32 without their leading zeros
abbrev pub read_number : {E : Type 0} → E → List ℕ → Result (List ℕ) E
read_number why bytes =
    if nat_le (length (without_zeros bytes)) 32 then Ok (padded_number (without_zeros bytes)) else Err why
