-- For which reasons a layout is refused: what holds of the reasons of its fields holds of its own.
use Rattle.std.specs.Prelude.{◌≡◌, Bool, true, false, if◌then◌else◌, List, ℕ, ◌⊎◌, Option, Some, None, ok_or, Result, Ok, Err}
use Rattle.std.proofs.Common.{refl, ap, subst, inl, inr}
use Rattle.picky_wire_base.specs.Flaw.{Flaw, Reason, Flawed, Length, Magic, Name, Number}
use Rattle.picky_wire_base.specs.Outcome.{and_then, map_err}
use Rattle.picky_wire_base.specs.Grammar.{Grammar}
use Rattle.picky_wire_base.specs.Narrowed.{Narrowing, meant}
use Rattle.picky_wire_base.specs.Combine.{at, placed, narrow}

-- each reason for which the reading is refused is such a one
abbrev pub RefusesAs : {E A : Type 0} → (E → Type 0) → (List ℕ → Result (A × List ℕ) E) → Type 0
RefusesAs {E = E} P read = (bytes : List ℕ) (e : E) → read bytes ≡ Err e → P e

-- a step that is refused was refused at first or later
pub and_then_err : {E A B : Type 0} (r : Result A E) (next : A → Result B E) (e : E) → and_then r next ≡ Err e
    → (r ≡ Err e) ⊎ ((x : A) × (r ≡ Ok x) × (next x ≡ Err e))
and_then_err (Ok x) next e is = inr (x, refl, is)
and_then_err (Err f) next e is = inl (cc is)

pub done_refuses : {E A : Type 0} (P : E → Type 0) (x : A) → RefusesAs P (λ bytes. Ok (x, bytes))
done_refuses P x bytes e is = cc is

-- one field, and then what its value decides
pub both_refuses : {E A B : Type 0} (P : E → Type 0) (read : List ℕ → Result (A × List ℕ) E)
    (next : A × List ℕ → Result (B × List ℕ) E) → RefusesAs P read
    → ((a : A) → RefusesAs P (λ rest. next (a, rest))) → RefusesAs P (λ bytes. and_then (read bytes) next)
both_refuses P read next first later bytes e is = elim (and_then_err (read bytes) next e is) [
  | inl early ↦ first bytes e early
  | inr (found, was, late) ↦ later found.0 found.1 e late
]

meant_refused : {E B : Type 0} (r : Result B E) (rest : List ℕ) (e : E)
    → and_then {B = B × List ℕ} r (λ b. Ok (b, rest)) ≡ Err e → r ≡ Err e
meant_refused (Ok b) rest e is = cc is
meant_refused (Err f) rest e is = ap Err (cc is)

-- a field that may say less than its kind
pub narrow_refuses : {E A B : Type 0} (P : E → Type 0) (G : Grammar E A) (M : Narrowing E A B)
    → RefusesAs P G.read → ((a : A) (e : E) → M.decide a ≡ Err e → P e) → RefusesAs P (narrow G M).read
narrow_refuses P G M field value bytes e is = elim (and_then_err (G.read bytes) (meant M) e is) [
  | inl early ↦ field bytes e early
  | inr (found, was, late) ↦ value found.0 e (meant_refused (M.decide found.0) found.1 e late)
]

placed_refused : {A : Type 0} (P : Reason → Type 0) (i : ℕ) (r : Result A Flaw) (e : Reason)
    → ((flaw : Flaw) → P (i, Flawed flaw)) → map_err (placed i) r ≡ Err e → P e
placed_refused P i (Ok x) e each is = cc is
placed_refused P i (Err flaw) e each is =
    let same : placed i flaw ≡ e = cc is in
    subst P same (each flaw)

-- a field at a place
pub at_refuses : {A : Type 0} (P : Reason → Type 0) (i : ℕ) (G : Grammar Flaw A)
    → ((flaw : Flaw) → P (i, Flawed flaw)) → RefusesAs P (at i G).read
at_refuses P i G each bytes e is = placed_refused P i (G.read bytes) e each is

-- a key that no entry has
pub entry_refused : {E A : Type 0} (found : Option A) (why e : E) → ok_or found why ≡ Err e → why ≡ e
entry_refused (Some x) why e is = cc is
entry_refused None why e is = cc is

-- a test that refuses
pub test_refused : {E A : Type 0} (passes : Bool) (x : A) (why e : E) → (if passes then Ok x else Err why) ≡ Err e
    → why ≡ e
test_refused true x why e is = cc is
test_refused false x why e is = cc is

-- a reason that is no unknown name
abbrev pub NotName : Reason → Type 0
NotName (i, Flawed flaw) = Unit {0}
NotName (i, Length) = Unit {0}
NotName (i, Magic) = Unit {0}
NotName (i, Name name) = ⊥
NotName (i, Number n) = Unit {0}
