-- A layout inside a string, whose bytes begin with a piece of it; what follows there is ignored.
use Rattle.std.specs.Prelude.{◌≡◌, List, ℕ, ◌++◌, ◌<◌, ◌^◌, length}
use Rattle.picky_wire_base.specs.Flaw.{Flaw}
use Rattle.picky_wire_base.specs.Grammar.{Grammar}
use Rattle.picky_wire_base.specs.Narrowed.{Narrowing}
use Rattle.picky_wire_base.specs.Combine.{narrow, tag}
use Rattle.picky_wire_base.specs.Wire.{string, string_of}
use Rattle.picky_wire_base.specs.Front.{Begins, read_front}
use Rattle.picky_wire_base.specs.carried.Inside.{front_sound, front_complete}

-- bytes stand for the value of the piece that they begin with
abbrev pub begins : {E A : Type 0} → Grammar E A → Narrowing E (List ℕ) A
begins G = record {
  means = Begins G.piece;
  decide = read_front G;
  sound = front_sound G;
  complete = front_complete G;
}

-- a string whose bytes stand for a value; a string that is cut has this reason
abbrev pub inside : {E A : Type 0} → (Flaw → E) → Narrowing E (List ℕ) A → Grammar E A
inside cut M = narrow (tag cut string) M

-- the bytes are a string that begins with a piece of the value
abbrev pub SubPiece : {A : Type 0} → (A → List ℕ → Type 0) → A → List ℕ → Type 0
SubPiece piece v bytes = (block : List ℕ) × string.piece block bytes × Begins piece block v

-- the layout inside a string
abbrev pub sub : {E A : Type 0} → (Flaw → E) → Grammar E A → Grammar E A
sub cut G = inside cut (begins G)

-- the bytes are the string of a piece and what follows it inside
pub record IsSubPiece {A : Type 0} (piece : A → List ℕ → Type 0) (v : A)
    (bytes : List ℕ) : Type 0 where
  pub front : List ℕ
  pub rest : List ℕ
  pub spells : piece v front
  pub are : bytes ≡ string_of (front ++ rest)
  pub short : length (front ++ rest) < 2 ^ 32
