-- Lemmas on writing bytes in pieces.
use Rattle.std.proofs.Common.{◌≡◌, ℕ, ◌<◌, ◌+◌, ◌-◌, List, ◌++◌, length, take, drop, sym, ap, ◌∙◌, arith, subst, Result, Ok, Err}
use Rattle.std.proofs.lemmas.List.{append_assoc, length-append, length-drop, take_all, take-append-le}
use Rattle.std.proofs.Math.Seq.{take-add, take-append-add}
use Rattle.std.specs.Prelude.{IfErr, OnOk}
use Rattle.picky_wire.specs.Count.{Rose}
use Rattle.picky_wire.specs.Puts.{Writes, Puts}

-- one more piece of the bytes was written
pub more_written : (at n : ℕ) (bytes old mid new : List ℕ) → mid ≡ old ++ take at bytes
    → new ≡ mid ++ take n (take (length bytes - at) (drop at bytes))
    → new ≡ old ++ take (at + n) bytes
more_written at n bytes old mid new so_far more =
    more ∙ ap (λ m. m ++ take n (take (length bytes - at) (drop at bytes))) so_far
    ∙ ap (λ r. (old ++ take at bytes) ++ take n r) (take_all (length bytes - at) (drop at bytes) (omega (arith, length-drop at bytes)))
    ∙ append_assoc old (take at bytes) (take n (drop at bytes))
    ∙ ap (λ r. old ++ r) (sym (take-add at n bytes))

-- ---- one piece after another

-- after the first piece, what the second write answers is what both answer
pub writes_second : {A E : Type 0} (r : Result A E) (p q old mid new : List ℕ) → mid ≡ old ++ p
    → Writes r q mid new → Writes r (p ++ q) old new
writes_second (Ok x) p q old mid new first second =
    second ∙ ap (λ m. m ++ q) first ∙ append_assoc old p q
writes_second (Err e) p q old mid new first (n, second, less) = (
  length p + n,
  second ∙ ap (λ m. m ++ take n q) first ∙ append_assoc old p (take n q)
      ∙ ap (λ r. old ++ r) (sym (take-append-add p q n)),
  omega (arith, less, length-append p q),
)

-- a front of the first piece, as a write that failed leaves it, is a front of both
pub front_writes : (p q old new : List ℕ) → (n : ℕ) × (new ≡ old ++ take n p) × (n < length p)
    → (m : ℕ) × (new ≡ old ++ take m (p ++ q)) × (m < length (p ++ q))
front_writes p q old new (n, front, less) = (
  n,
  front ∙ ap (λ r. old ++ r) (sym (take-append-le n p q (omega (arith, less)))),
  omega (arith, less, length-append p q),
)

pub ruleset in_order = (writes_second, front_writes)

-- a later step has the cause that it has alone, where the first counted no fault
pub later_cause : {A E : Type 0} (r : Result A E) (fault : E) (old mid new : ℕ) → mid ≡ old
    → IfErr r (λ e. (e ≡ fault) × Rose mid new) → IfErr r (λ e. (e ≡ fault) × Rose old new)
later_cause (Ok x) fault old mid new calm cause = tt
later_cause (Err e) fault old mid new calm cause = (cause.0, omega (arith, cause.1, calm))

pub later_calm : {A E : Type 0} (r : Result A E) (old mid new : ℕ) → mid ≡ old → OnOk r (new ≡ mid)
    → OnOk r (new ≡ old)
later_calm (Ok x) old mid new calm later = later ∙ calm
later_calm (Err e) old mid new calm later = tt

-- the answer to a piece that is spelled otherwise
pub writes_same : {A E : Type 0} (r : Result A E) (p q old new : List ℕ) → p ≡ q
    → Writes r p old new → Writes r q old new
writes_same r p q old new same writes = subst (λ b. Writes r b old new) same writes

-- ---- what a call promises that writes one piece after another

pub puts_then : {S A B E : Type 0} {tells : S → Type 0} {written : S → List ℕ} {faults : S → ℕ} {fault : E}
    {p q : List ℕ} {a : A} {r : Result B E} {old mid new : S} → Puts tells written faults fault p (Ok a) old mid
    → Puts tells written faults fault q r mid new → Puts tells written faults fault (p ++ q) r old new
puts_then {written = written} {faults = faults} {fault = fault} {p = p} {q = q} {r = r} {old = old} {mid = mid} {new = new} first second = record {
  writes = λ t. writes_second r p q (written old) (written mid) (written new) (first.writes t) (second.writes (first.told t));
  cause = later_cause r fault (faults old) (faults mid) (faults new) first.calm second.cause;
  calm = later_calm r (faults old) (faults mid) (faults new) first.calm second.calm;
  told = λ t. second.told (first.told t);
}

pub puts_first : {S A B E : Type 0} {tells : S → Type 0} {written : S → List ℕ} {faults : S → ℕ} {fault : E}
    (p q : List ℕ) {e : E} {old new : S} → Puts {A = A} tells written faults fault p (Err e) old new
    → Puts {A = B} tells written faults fault (p ++ q) (Err e) old new
puts_first {written = written} p q {old = old} {new = new} first = record {
  writes = λ t. front_writes p q (written old) (written new) (first.writes t);
  cause = first.cause;
  calm = tt;
  told = first.told;
}

-- the layer's error in place of the wire's
pub puts_as : {S A B E F : Type 0} (tells : S → Type 0) (written : S → List ℕ) (faults : S → ℕ) (fault : E) (fault' : F)
    (p : List ℕ) (e : E) (f : F) (old new : S) → f ≡ fault' → Puts {A = A} tells written faults fault p (Err e) old new
    → Puts {A = B} tells written faults fault' p (Err f) old new
puts_as tells written faults fault fault' p e f old new is puts = record {
  writes = puts.writes;
  cause = (is, puts.cause.1);
  calm = tt;
  told = puts.told;
}

-- the same of bytes that were written
pub puts_done : {S A B E F : Type 0} (tells : S → Type 0) (written : S → List ℕ) (faults : S → ℕ) (fault : E) (fault' : F)
    (p : List ℕ) (a : A) (b : B) (old new : S) → Puts tells written faults fault p (Ok a) old new
    → Puts tells written faults fault' p (Ok b) old new
puts_done tells written faults fault fault' p a b old new puts = record {
  writes = puts.writes;
  cause = tt;
  calm = puts.calm;
  told = puts.told;
}

-- bytes that are spelled otherwise
pub puts_same : {S A E : Type 0} {tells : S → Type 0} {written : S → List ℕ} {faults : S → ℕ} {fault : E}
    (p q : List ℕ) {r : Result A E} {old new : S} → p ≡ q → Puts tells written faults fault p r old new
    → Puts tells written faults fault q r old new
puts_same {written = written} p q {r = r} {old = old} {new = new} same puts = record {
  writes = λ t. writes_same r p q (written old) (written new) same (puts.writes t);
  cause = puts.cause;
  calm = puts.calm;
  told = puts.told;
}
