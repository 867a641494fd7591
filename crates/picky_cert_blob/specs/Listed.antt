-- A list, and a layout inside a string, each with the place where something inside is refused; and a layout that has no
-- piece.
use Rattle.std.specs.Prelude.{List, ℕ, Err}
use Rattle.std.proofs.Common.{refl}
use Rattle.picky_wire_base.specs.Flaw.{Flaw}
use Rattle.picky_wire_base.specs.Grammar.{Grammar}
use Rattle.picky_wire_base.specs.Inside.{inside, begins}
use Rattle.picky_wire_base.specs.Many.{row}
use Rattle.picky_wire_base.specs.Narrowed.{Narrowing}
use Rattle.picky_wire_base.specs.Row.{Solid}
use Rattle.picky_cert_blob.specs.Used.{used_inside, used_row}
use Rattle.picky_cert_blob.specs.carried.Listed.{inside_takes, refused_gives_none}

-- a string whose bytes stand for a value; what is refused inside it has these many bytes in front
abbrev pub placed_inside : {E A : Type 0} → (Flaw → E) → Narrowing E (List ℕ) A → (List ℕ → ℕ) → Grammar E A
placed_inside cut M used = record {
  piece = (inside cut M).piece;
  read = (inside cut M).read;
  used = used_inside M.decide used;
  sound = (inside cut M).sound;
  complete = (inside cut M).complete;
  takes = inside_takes cut M used;
}

-- a list of a layout's values inside a string, with nothing left over
abbrev pub listed : {E A : Type 0} → (Flaw → E) → (G : Grammar E A) → Solid G.piece → Grammar E (List A)
listed cut G solid = placed_inside cut (row G solid) (used_row G)

-- a layout inside a string; what follows it there is ignored
abbrev pub enclosed : {E A : Type 0} → (Flaw → E) → Grammar E A → Grammar E A
enclosed cut G = placed_inside cut (begins G) G.used

-- no bytes are a piece, and all are refused for this
abbrev pub refuses_all_bytes : {E A : Type 0} → E → Grammar E A
refuses_all_bytes why = record {
  piece = λ v bytes. ⊥;
  read = λ bytes. Err why;
  used = λ bytes. 0;
  sound = λ bytes v rest same. absurd (refused_gives_none (Err why) why v rest refl same);
  complete = λ v front rest spells. absurd spells;
  takes = λ bytes v rest same. absurd (refused_gives_none (Err why) why v rest refl same);
}
