-- For which reasons a layout is refused: what holds of the reasons of its fields holds of its own.
use Rattle.std.specs.Prelude.{◌≡◌, List, ℕ, Result, Ok, Err, Option, Some, None, ok_or}
use Rattle.std.proofs.Common.{ap, subst}
use Rattle.picky_wire_base.specs.Flaw.{Flaw}
use Rattle.picky_wire_base.specs.Grammar.{Grammar}
use Rattle.picky_wire_base.specs.Combine.{narrow, ◌>>=◌}
use Rattle.picky_wire_base.specs.Narrowed.{Narrowing, meant}
use Rattle.picky_wire_base.specs.Outcome.{and_then, map_err}
use Rattle.picky_wire.specs.declared.error.WireError.{WireError}
use Rattle.picky_wire.specs.Flaws.{wire_error}
use Rattle.picky_cert_parts.specs.Field.{field}

-- each reason for which bytes are refused is such a one
abbrev pub RefusesAs : {E A : Type 0} → (E → Type 0) → Grammar E A → Type 0
RefusesAs {E = E} P G = (bytes : List ℕ) (e : E) → G.read bytes ≡ Err e → P e

step_refuses : {E A B : Type 0} (P : E → Type 0) (r : Result A E) (next : A → Result B E)
    → ((e : E) → r ≡ Err e → P e) → ((x : A) (e : E) → next x ≡ Err e → P e) → (e : E) → and_then r next ≡ Err e → P e
step_refuses P (Ok x) next first later e is = later x e is
step_refuses P (Err d) next first later e is = first e (ap Err (cc is))

-- two layouts, one after the other
pub both_refuses : {E A B : Type 0} (P : E → Type 0) (G : Grammar E A) (H : A → Grammar E B) → RefusesAs P G
    → ((a : A) → RefusesAs P (H a)) → RefusesAs P (G >>= H)
both_refuses P G H first later bytes e is =
    step_refuses P (G.read bytes) (λ x. (H x.0).read x.1) (first bytes) (λ x d. later x.0 x.1 d) e is

value_refuses : {E B : Type 0} (P : E → Type 0) (r : Result B E) (rest : List ℕ) → ((e : E) → r ≡ Err e → P e)
    → (e : E) → and_then {B = B × List ℕ} r (λ b. Ok (b, rest)) ≡ Err e → P e
value_refuses P (Ok b) rest value e is = cc is
value_refuses P (Err d) rest value e is = value e (ap Err (cc is))

-- a field that may say less than its kind
pub narrow_refuses : {E A B : Type 0} (P : E → Type 0) (G : Grammar E A) (M : Narrowing E A B) → RefusesAs P G
    → ((a : A) (e : E) → M.decide a ≡ Err e → P e) → RefusesAs P (narrow G M)
narrow_refuses P G M first value bytes e is =
    step_refuses P (G.read bytes) (meant M) (first bytes)
    (λ x d. value_refuses P (M.decide x.0) x.1 (value x.0) d) e is

tagged_refuses : {E A : Type 0} (P : E → Type 0) (of : WireError → E) (r : Result (A × List ℕ) Flaw)
    → ((flaw : Flaw) → P (of (wire_error flaw))) → (e : E) → map_err (λ flaw. of (wire_error flaw)) r ≡ Err e → P e
tagged_refuses P of (Ok x) each e is = cc is
tagged_refuses P of (Err flaw) each e is =
    let same : of (wire_error flaw) ≡ e = cc is in
    subst P same (each flaw)

-- a field of the wire
pub field_refuses : {E A : Type 0} (P : E → Type 0) (of : WireError → E) (G : Grammar Flaw A)
    → ((flaw : Flaw) → P (of (wire_error flaw))) → RefusesAs P (field of G)
field_refuses P of G each bytes e is = tagged_refuses P of (G.read bytes) each e is

-- a name that no entry has
pub entry_refuses : {E A : Type 0} (P : E → Type 0) (o : Option A) (unknown e : E) → P unknown → ok_or o unknown ≡ Err e → P e
entry_refuses P (Some a) unknown e own is = cc is
entry_refuses P None unknown e own is =
    let same : unknown ≡ e = cc is in
    subst P same own
