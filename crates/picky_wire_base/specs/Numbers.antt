-- The numbers of SSH's wire, and their one spelling (RFC 4251, section 5).
use Rattle.std.specs.Prelude.{List, ℕ, ◌<◌, slice_index}
use Rattle.std.specs.Int.{w8, w64}
use Rattle.picky_wire_base.specs.Flaw.{Flaw}
use Rattle.picky_wire_base.specs.Grammar.{Grammar}
use Rattle.picky_wire_base.specs.Wire.{number}

-- byte: a number below 256, as that byte
unfoldable pub byte : Grammar Flaw ℕ
byte = number w8

-- uint64: a number below 2^64, as its eight bytes
unfoldable pub uint64 : Grammar Flaw ℕ
uint64 = number w64

-- each number of the list is a byte
abbrev pub IsBytes : List ℕ → Type 0
IsBytes bytes = (i : ℕ) → slice_index bytes i < 256
