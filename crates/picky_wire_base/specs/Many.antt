-- A list of a layout's values inside a string, which is their pieces joined with nothing left over.
use Rattle.std.specs.Prelude.{◌≡◌, List, ℕ, ◌<◌, ◌^◌, length, Result, Ok}
use Rattle.picky_wire_base.specs.Outcome.{and_then, map_err}
use Rattle.picky_wire_base.specs.Flaw.{Flaw}
use Rattle.picky_wire_base.specs.Grammar.{Grammar}
use Rattle.picky_wire_base.specs.Narrowed.{Narrowing}
use Rattle.picky_wire_base.specs.Inside.{inside}
use Rattle.picky_wire_base.specs.Wire.{string, string_of}
use Rattle.picky_wire_base.specs.Row.{Solid, Row, read_all}
use Rattle.picky_wire_base.specs.carried.Row.{row_sound, row_complete}

-- the values whose pieces the whole string is, where no piece is empty
abbrev pub row : {E A : Type 0} → (G : Grammar E A) → Solid G.piece → Narrowing E (List ℕ) (List A)
row G solid = record {
  means = λ block vs. Row G.piece vs block;
  decide = read_all G;
  sound = row_sound G solid;
  complete = row_complete G solid;
}

-- the list inside a string; a string that is cut has this reason
abbrev pub many : {E A : Type 0} → (Flaw → E) → (G : Grammar E A) → Solid G.piece
    → Grammar E (List A)
many cut G solid = inside cut (row G solid)

-- the bytes are the string of the values' pieces, one after another
abbrev pub ManyPiece : {A : Type 0} → (A → List ℕ → Type 0) → List A → List ℕ → Type 0
ManyPiece piece values bytes = (block : List ℕ) × string.piece block bytes × Row piece values block

-- the list in front, and what follows it
abbrev pub read_many : {E A : Type 0} → (Flaw → E) → Grammar E A → List ℕ
    → Result (List A × List ℕ) E
read_many cut G bytes =
    and_then (map_err cut (string.read bytes)) (λ block.
    and_then (read_all G block.0) (λ values. Ok (values, block.1)))

-- the bytes are the string of a row
pub record IsManyPiece {A : Type 0} (piece : A → List ℕ → Type 0) (vs : List A)
    (bytes : List ℕ) : Type 0 where
  pub block : List ℕ
  pub pieces : Row piece vs block
  pub are : bytes ≡ string_of block
  pub short : length block < 2 ^ 32
