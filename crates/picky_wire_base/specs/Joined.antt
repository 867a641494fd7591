-- A field and then what its value decides, as a relation and as a reading.
use Rattle.std.specs.Prelude.{◌≡◌, List, ℕ, ◌+◌, ◌++◌, Result, Ok, Err}
use Rattle.picky_wire_base.specs.Outcome.{and_then}
use Rattle.picky_wire_base.specs.Grammar.{Grammar}

-- ---- one field, and then what its value decides

-- the bytes are a piece of the first and then a piece of what follows it
abbrev pub Joined : {E A B : Type 0} → Grammar E A → (A → Grammar E B) → B → List ℕ → Type 0
Joined {A = A} G H v bytes =
    (u : A) × (x : List ℕ) × (y : List ℕ) × G.piece u x × (H u).piece v y × (bytes ≡ x ++ y)

abbrev pub read_both : {E A B : Type 0} → Grammar E A → (A → Grammar E B)
    → List ℕ → Result (B × List ℕ) E
read_both G H bytes = and_then (G.read bytes) (λ first. (H first.0).read first.1)

-- the bytes of a field and of what follows it, or of the field alone where it is refused
abbrev pub used_then : {E A : Type 0} → Result (A × List ℕ) E → ℕ → (A × List ℕ → ℕ) → ℕ
used_then (Ok first) field next = field + next first
used_then (Err e) field next = field

abbrev pub used_both : {E A B : Type 0} → Grammar E A → (A → Grammar E B) → List ℕ → ℕ
used_both G H bytes = used_then (G.read bytes) (G.used bytes) (λ first. (H first.0).used first.1)
