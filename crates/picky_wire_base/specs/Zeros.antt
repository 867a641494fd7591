-- The bytes of a number without the zeros in front of them (RFC 4251, section 5).
use Rattle.std.specs.Prelude.{List, [], ◌∷◌, ℕ, zero, suc, ◌<◌, length, slice_index}

-- the first byte, where there is one, isn't 0
abbrev pub BeginsWithNoZero : List ℕ → Type 0
BeginsWithNoZero bytes = 0 < length bytes → 0 < slice_index bytes 0

-- the bytes from the first that isn't 0
abbrev pub without_zeros : List ℕ → List ℕ
without_zeros [] = []
without_zeros (zero ∷ bytes) = without_zeros bytes
without_zeros (suc b ∷ bytes) = suc b ∷ bytes
