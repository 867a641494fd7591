-- Bytes that begin with a piece; what follows is ignored.
use Rattle.std.specs.Prelude.{List, ℕ, Result, Ok}
use Rattle.picky_wire_base.specs.Outcome.{and_then}
use Rattle.picky_wire_base.specs.Grammar.{Grammar, Fits}

-- the bytes begin with a piece that spells the value
abbrev pub Begins : {A : Type 0} → (A → List ℕ → Type 0) → List ℕ → A → Type 0
Begins piece bytes v = (rest : List ℕ) × Fits piece v bytes rest

-- the value in front
abbrev pub read_front : {E A : Type 0} → Grammar E A → List ℕ → Result A E
read_front G bytes = and_then (G.read bytes) (λ first. Ok first.0)
