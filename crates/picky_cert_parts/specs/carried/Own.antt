-- Layouts whose refusals are the bytes' own: none is for a fault or for want of memory.
use Rattle.std.specs.Prelude.{◌≡◌, ◌≢◌, List, ℕ, Result, Ok, Err, Option, Some, None, ok_or}
use Rattle.std.proofs.Common.{ap, ◌∙◌}
use Rattle.picky_wire_base.specs.Flaw.{Flaw, Short, NotUtf8, Big}
use Rattle.picky_wire_base.specs.Grammar.{Grammar}
use Rattle.picky_wire_base.specs.Combine.{narrow, ◌>>=◌}
use Rattle.picky_wire_base.specs.Narrowed.{Narrowing, meant}
use Rattle.picky_wire_base.specs.Outcome.{and_then, map_err}
use Rattle.picky_wire.specs.declared.error.WireError.{WireError}
use Rattle.picky_wire.specs.declared.error.WireError.TheVariants as errors
use Rattle.picky_wire.specs.Flaws.{wire_error}
use Rattle.picky_wire.specs.OfWire.{IsErrorOfBytes}
use Rattle.picky_cert_parts.specs.Field.{field}

-- each error with which bytes are refused is their own
abbrev pub Owns : {E A : Type 0} → (WireError → E) → Grammar E A → Type 0
Owns {E = E} of G = (bytes : List ℕ) (e : E) → G.read bytes ≡ Err e → IsErrorOfBytes of e

owned : {A E : Type 0} (of : WireError → E) → ((d e : WireError) → of d ≡ of e → d ≡ e)
    → (r : Result (A × List ℕ) Flaw) (e : E) → map_err (λ flaw. of (wire_error flaw)) r ≡ Err e → IsErrorOfBytes of e
owned of apart (Ok x) e is = cc is
owned of apart (Err Short) e is =
    let same : of errors.UnexpectedEnd ≡ e = cc is in
    (λ other. cc (apart _ _ (same ∙ other)), λ other. cc (apart _ _ (same ∙ other)))
owned of apart (Err NotUtf8) e is =
    let same : of errors.InvalidUtf8 ≡ e = cc is in
    (λ other. cc (apart _ _ (same ∙ other)), λ other. cc (apart _ _ (same ∙ other)))
owned of apart (Err Big) e is =
    let same : of errors.TooLong ≡ e = cc is in
    (λ other. cc (apart _ _ (same ∙ other)), λ other. cc (apart _ _ (same ∙ other)))

-- A field's are.
pub field_owns : {E A : Type 0} (of : WireError → E) (G : Grammar Flaw A)
    → ((d e : WireError) → of d ≡ of e → d ≡ e) → Owns of (field of G)
field_owns of G apart bytes e refused = owned of apart (G.read bytes) e refused

both_step : {E A B : Type 0} (of : WireError → E) (r : Result (A × List ℕ) E)
    (next : A × List ℕ → Result (B × List ℕ) E)
    → ((e : E) → r ≡ Err e → IsErrorOfBytes of e) → ((x : A × List ℕ) (e : E) → next x ≡ Err e → IsErrorOfBytes of e)
    → (e : E) → and_then r next ≡ Err e → IsErrorOfBytes of e
both_step of (Ok x) next first second e refused = second x e refused
both_step of (Err d) next first second e refused = first e (ap Err (cc refused))

-- So are those of two layouts, one after the other.
pub both_owns : {E A B : Type 0} (of : WireError → E) (G : Grammar E A) (H : A → Grammar E B)
    → Owns of G → ((a : A) → Owns of (H a)) → Owns of (G >>= H)
both_owns of G H first second bytes e refused =
    both_step of (G.read bytes) (λ x. (H x.0).read x.1) (first bytes) (λ x d. second x.0 x.1 d) e refused

value_step : {E B : Type 0} (of : WireError → E) (r : Result B E) (rest : List ℕ)
    → ((e : E) → r ≡ Err e → IsErrorOfBytes of e) → (e : E)
    → and_then {B = B × List ℕ} r (λ b. Ok (b, rest)) ≡ Err e → IsErrorOfBytes of e
value_step of (Ok b) rest own e refused = cc refused
value_step of (Err d) rest own e refused = own e (ap Err (cc refused))

-- And those of a field that may say less.
pub narrow_owns : {E A B : Type 0} (of : WireError → E) (G : Grammar E A) (M : Narrowing E A B)
    → Owns of G → ((a : A) (e : E) → M.decide a ≡ Err e → IsErrorOfBytes of e) → Owns of (narrow G M)
narrow_owns of G M first second bytes e refused =
    both_step of (G.read bytes) (meant M) (first bytes)
    (λ x d. value_step of (M.decide x.0) x.1 (second x.0) d) e refused

-- And those of a name that no entry has.
pub entry_owns : {E A : Type 0} (of : WireError → E) (o : Option A) (unknown e : E) → IsErrorOfBytes of unknown
    → ok_or o unknown ≡ Err e → IsErrorOfBytes of e
entry_owns of (Some a) unknown e own refused = cc refused
entry_owns of None unknown e own refused =
    let same : unknown ≡ e = cc refused in
    (λ other. own.0 (same ∙ other), λ other. own.1 (same ∙ other))
