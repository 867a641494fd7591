-- Where a string is refused: where the bytes end inside it (RFC 4251, section 5).
use Rattle.std.specs.Prelude.{List, ℕ, ◌+◌, ◌<◌, length, take}
use Rattle.std.specs.Int.{w32, from_be_bytes}

-- the bytes end inside a string: in its four bytes of length, or before as many bytes as they say
abbrev pub EndsInString : List ℕ → Type 0
EndsInString bytes = length bytes < 4 + from_be_bytes w32 (take 4 bytes)
