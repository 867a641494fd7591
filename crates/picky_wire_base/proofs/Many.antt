-- The laws of a list inside a string.
use Rattle.std.specs.Prelude.{◌≡◌, List, ℕ, ◌++◌, ◌<◌, ◌^◌, length, Ok}
use Rattle.picky_wire_base.specs.Flaw.{Flaw}
use Rattle.picky_wire_base.specs.Grammar.{Grammar}
use Rattle.picky_wire_base.specs.Wire.{string_of}
use Rattle.picky_wire_base.specs.Numbers.{IsBytes}
use Rattle.picky_wire_base.proofs.Strings.{string_spells, string_exact}
use Rattle.picky_wire_base.specs.Row.{Solid, Row}
use Rattle.picky_wire_base.specs.Many.{many, IsManyPiece}

-- The string of a row is a piece.
pub many_spells : {E A : Type 0} (cut : Flaw → E) (G : Grammar E A)
    (solid : Solid G.piece) (vs : List A) (block : List ℕ) → Row G.piece vs block
    → length block < 2 ^ 32 → (many cut G solid).piece vs (string_of block)
many_spells cut G solid vs block pieces short = (block, string_spells block short, pieces)

-- It is read back whatever follows.
pub many_reads_back : {E A : Type 0} (cut : Flaw → E) (G : Grammar E A)
    (solid : Solid G.piece) (vs : List A) (block rest : List ℕ) → Row G.piece vs block
    → length block < 2 ^ 32 → (many cut G solid).read (string_of block ++ rest) ≡ Ok (vs, rest)
many_reads_back cut G solid vs block rest pieces short =
    (many cut G solid).complete vs (string_of block) rest
    (many_spells cut G solid vs block pieces short)

-- Nothing else is a piece.
pub many_exact : {E A : Type 0} (cut : Flaw → E) (G : Grammar E A) (solid : Solid G.piece)
    (vs : List A) (bytes : List ℕ) → IsBytes bytes → (many cut G solid).piece vs bytes
    → IsManyPiece G.piece vs bytes
many_exact cut G solid vs bytes each (block, spells, pieces) =
    let exact = string_exact block bytes each spells in
    record { block = block; pieces = pieces; are = exact.0; short = exact.1 }
