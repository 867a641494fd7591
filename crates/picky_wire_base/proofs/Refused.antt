-- Where and why bytes don't fit a layout: reading gives one answer, with the first field's reason.
use Rattle.std.specs.Prelude.{◌≡◌, List, ℕ, Result, Ok, Err}
use Rattle.std.proofs.Common.{sym, ◌∙◌, ap, refl}
use Rattle.picky_wire_base.specs.Outcome.{and_then}
use Rattle.picky_wire_base.specs.Grammar.{Grammar, Fits}
use Rattle.picky_wire_base.specs.Narrowed.{Narrowing, meant}
use Rattle.picky_wire_base.specs.Combine.{narrow, ◌>>=◌}

-- ---- one answer

-- Reading is a function.
pub one_answer : {E A : Type 0} (G : Grammar E A) (bytes : List ℕ) (r s : Result (A × List ℕ) E)
    → G.read bytes ≡ r → G.read bytes ≡ s → r ≡ s
one_answer G bytes r s first second = sym first ∙ second

-- Bytes that don't fit have one reason.
pub one_reason : {E A : Type 0} (G : Grammar E A) (bytes : List ℕ) (e f : E)
    → G.read bytes ≡ Err e → G.read bytes ≡ Err f → e ≡ f
one_reason G bytes e f first second =
    let both = one_answer G bytes (Err e) (Err f) first second in cc both

-- the bytes begin with a piece, or there is a reason why they don't
pub data Answer {E A : Type 0} (G : Grammar E A) (bytes : List ℕ) : Type 0 where
  Found : (v : A) (rest : List ℕ) → Fits G.piece v bytes rest → Answer G bytes
  Refused : (e : E) → G.read bytes ≡ Err e → Answer G bytes

-- Where no piece stands in front, there is a reason.
pub fits_or_refused : {E A : Type 0} (G : Grammar E A) (bytes : List ℕ) → Answer G bytes
fits_or_refused {E = E} {A = A} G bytes = go (G.read bytes) refl
  where
    go : (r : Result (A × List ℕ) E) → G.read bytes ≡ r → Answer G bytes
    go (Ok (v, rest)) is = Found v rest (G.sound bytes v rest is)
    go (Err e) is = Refused e is

-- ---- the reason is that of the first field that doesn't fit

-- the reason is the first field's, or that field fits and the reason is that of what follows it
pub data Stuck {E A B : Type 0} (G : Grammar E A) (H : A → Grammar E B) (bytes : List ℕ)
    (e : E) : Type 0 where
  First : G.read bytes ≡ Err e → Stuck G H bytes e
  Later : (u : A) (rest : List ℕ) → Fits G.piece u bytes rest → (H u).read rest ≡ Err e
      → Stuck G H bytes e

-- A layout is stuck at one of its fields.
pub both_refused : {E A B : Type 0} (G : Grammar E A) (H : A → Grammar E B) (bytes : List ℕ) (e : E)
    → (G >>= H).read bytes ≡ Err e → Stuck G H bytes e
both_refused {E = E} {A = A} G H bytes e same = go (G.read bytes) refl same
  where
    go : (r : Result (A × List ℕ) E) → G.read bytes ≡ r
        → and_then r (λ first. (H first.0).read first.1) ≡ Err e → Stuck G H bytes e
    go (Ok (u, rest)) is later = Later u rest (G.sound bytes u rest is) later
    go (Err f) is first = First (is ∙ cc first)

-- the reason is the field's, or the field fits and the reason is that of its value
pub data StuckNarrowed {E A B : Type 0} (G : Grammar E A) (M : Narrowing E A B) (bytes : List ℕ)
    (e : E) : Type 0 where
  Field : G.read bytes ≡ Err e → StuckNarrowed G M bytes e
  Value : (a : A) (rest : List ℕ) → Fits G.piece a bytes rest → M.decide a ≡ Err e
      → StuckNarrowed G M bytes e

value_refused : {E B : Type 0} (r : Result B E) (rest : List ℕ) (e : E)
    → and_then {B = B × List ℕ} r (λ b. Ok (b, rest)) ≡ Err e → r ≡ Err e
value_refused (Ok b) rest e same = cc same
value_refused (Err f) rest e same = ap Err (cc same)

-- A field that may say less than its kind is refused as its kind is, or for its value.
pub narrow_refused : {E A B : Type 0} (G : Grammar E A) (M : Narrowing E A B) (bytes : List ℕ) (e : E)
    → (narrow G M).read bytes ≡ Err e → StuckNarrowed G M bytes e
narrow_refused {E = E} {A = A} G M bytes e same = go (G.read bytes) refl same
  where
    go : (r : Result (A × List ℕ) E) → G.read bytes ≡ r → and_then r (meant M) ≡ Err e
        → StuckNarrowed G M bytes e
    go (Ok (a, rest)) is value =
        Value a rest (G.sound bytes a rest is) (value_refused (M.decide a) rest e value)
    go (Err f) is field = Field (is ∙ cc field)
