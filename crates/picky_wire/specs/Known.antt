-- What std's readers and writers tell of their bytes.
use Rattle.std.specs.Prelude.{List, [], ℕ, Option, Some, None, IsSome}
use Rattle.picky_wire_base.specs.Numbers.{IsBytes}

-- the bytes, where they are told
abbrev pub known_or_nil : Option (List ℕ) → List ℕ
known_or_nil None = []
known_or_nil (Some bytes) = bytes

-- the bytes are told, and they are bytes
abbrev pub TellsBytes : Option (List ℕ) → Type 0
TellsBytes known = IsSome known × IsBytes (known_or_nil known)
