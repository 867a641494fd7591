-- Lemmas on a string whose length is read first: what is made of its bytes has read its length first too.
use Rattle.std.proofs.Common.{◌≡◌, ◌<◌, ap, ℕ, List, Result, Ok, Err, inl, inr}
use Rattle.std.specs.Prelude.{Option, Some, None, IfSome, IfErr}
use Rattle.picky_wire.specs.declared.error.WireError.{WireError}
use Rattle.picky_wire.specs.declared.error.WireError.TheVariants as errors
use Rattle.picky_wire.specs.LengthFirst.{LengthFirst}

-- where fewer are known to be left, what follows from a promise holds too
pub if_fewer : {P Q : Type 0} (known : Option ℕ) (len : ℕ) → (P → Q) → IfSome known (λ n. n < len → P)
    → IfSome known (λ n. n < len → Q)
if_fewer None len next promised = promised
if_fewer (Some n) len next promised = λ few. next (promised few)

if_refused : {A : Type 0} {P Q : WireError → Type 0} (r : Result A WireError) → ((e : WireError) → P e → Q e) → IfErr r P
    → IfErr r Q
if_refused (Ok v) next promised = promised
if_refused (Err e) next promised = next e promised

-- the bytes were read, whatever is made of them
pub made_length_first : {S A B : Type 0} (tells : S → Type 0) (left : S → List ℕ) (known : S → Option ℕ)
    (faults : S → ℕ) (v : A) (made : Result B WireError) (old new : S)
    → LengthFirst tells left known faults (Ok v) old new → LengthFirst tells left known faults made old new
unfolding LengthFirst
made_length_first tells left known faults v made old new (inl is) = absurd (cc is.refused)
made_length_first tells left known faults v made old new (inr is) = inr (record {
  len = is.len;
  mid = is.mid;
  takes_len = is.takes_len;
  unread = if_fewer (known is.mid) is.len (λ was. absurd (cc was.0)) is.unread;
  bytes = is.bytes;
  takes_bytes = is.takes_bytes;
  refused = if_refused is.bytes (λ e was. absurd (cc was)) is.refused;
})

-- the string was refused, so nothing is made of it
pub unmade_length_first : {S : Type 0} (A B : Type 0) (tells : S → Type 0) (left : S → List ℕ) (known : S → Option ℕ)
    (faults : S → ℕ) (e : WireError) (old new : S) → LengthFirst {A = A} tells left known faults (Err e) old new
    → LengthFirst {A = B} tells left known faults (Err e) old new
unfolding LengthFirst
unmade_length_first A B tells left known faults e old new (inl is) = inl (record {
  why = is.why;
  cause = is.cause;
  takes = is.takes;
  refused = let same : e ≡ is.why = cc is.refused in ap Err same;
})
unmade_length_first A B tells left known faults e old new (inr is) = inr (record {
  len = is.len;
  mid = is.mid;
  takes_len = is.takes_len;
  unread = if_fewer (known is.mid) is.len (λ was. let same : e ≡ errors.UnexpectedEnd = cc was.0 in (ap Err same, was.1))
      is.unread;
  bytes = is.bytes;
  takes_bytes = is.takes_bytes;
  refused = if_refused is.bytes (λ f was. let same : e ≡ f = cc was in ap Err same) is.refused;
})

pub ruleset length_firsts = (made_length_first, unmade_length_first)
