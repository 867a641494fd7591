-- A field narrowed to what its value may stand for, as a relation and as a reading.
use Rattle.std.specs.Prelude.{◌≡◌, List, ℕ, Result, Ok}
use Rattle.picky_wire_base.specs.Outcome.{and_then}
use Rattle.picky_wire_base.specs.Grammar.{Grammar}

-- ---- a field that may say less than its kind

-- what the values of a field mean, where they mean something
pub record Narrowing (E A B : Type 0) : Type 1 where
  -- the field's value stands for this value
  pub means : A → B → Type 0
  pub decide : A → Result B E
  pub sound : (a : A) (b : B) → decide a ≡ Ok b → means a b
  pub complete : (a : A) (b : B) → means a b → decide a ≡ Ok b

-- the bytes are a piece whose value stands for this value
abbrev pub Narrowed : {E A B : Type 0} → Grammar E A → Narrowing E A B → B → List ℕ → Type 0
Narrowed {A = A} G M b bytes = (a : A) × G.piece a bytes × M.means a b

-- the value that the field's value stands for, before the same rest
abbrev pub meant : {E A B : Type 0} → Narrowing E A B → A × List ℕ → Result (B × List ℕ) E
meant M first = and_then (M.decide first.0) (λ b. Ok (b, first.1))

abbrev pub read_narrowed : {E A B : Type 0} → Grammar E A → Narrowing E A B
    → List ℕ → Result (B × List ℕ) E
read_narrowed G M bytes = and_then (G.read bytes) (meant M)
