-- A string whose empty form has a meaning of its own, and which else holds a layout, as a grammar.
use Rattle.std.specs.Prelude.{List, ℕ}
use Rattle.picky_wire_base.specs.Flaw.{Flaw}
use Rattle.picky_wire_base.specs.Grammar.{Grammar}
use Rattle.picky_wire_base.specs.Narrowed.{Narrowing}
use Rattle.picky_wire_base.specs.Inside.{begins, inside}
use Rattle.picky_wire_base.specs.Empty.{EmptyOr, decide_empty_or}
use Rattle.picky_wire_base.specs.carried.Empty.{empty_or_sound, empty_or_complete}

-- no bytes stand for e, and any others for what they stand for
abbrev pub empty_or : {E A : Type 0} → A → Narrowing E (List ℕ) A → Narrowing E (List ℕ) A
empty_or e M = record {
  means = EmptyOr e M.means;
  decide = decide_empty_or e M;
  sound = empty_or_sound e M;
  complete = empty_or_complete e M;
}

-- the empty string as e, and any other as the layout inside it
abbrev pub empty_or_within : {E A : Type 0} → (Flaw → E) → A → Grammar E A → Grammar E A
empty_or_within cut e G = inside cut (empty_or e (begins G))
