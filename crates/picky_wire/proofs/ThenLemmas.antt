-- Lemmas on bytes that are taken whole, and then judged.
use Rattle.std.proofs.Common.{◌≡◌, ◌≢◌, ◌⊎◌, ℕ, List, ap, ◌∙◌, inl, inr, Result, Ok, Err}
use Rattle.std.specs.Prelude.{Option, IfErr}
use Rattle.picky_wire_base.specs.Outcome.{and_then}
use Rattle.picky_wire_base.specs.Gives.{Gives}
use Rattle.picky_wire.specs.Takes.{Causes, Takes, HasCause}

-- the value in front, as it is judged, and what follows it
abbrev pub read_judged : {A B E : Type 0} → (List ℕ → Result (B × List ℕ) E) → (B → Result A E)
    → List ℕ → Result (A × List ℕ) E
read_judged reads judge bytes =
    and_then (reads bytes) (λ found. and_then (judge found.0) (λ v. Ok (v, found.1)))

-- a refusal that is no want of memory is the bytes' own
pub own_refusal : {A E : Type 0} (e want : E) (says : Result A E) → (e ≡ want) ⊎ (says ≡ Err e) → e ≢ want
    → says ≡ Err e
own_refusal e want says (inl is) other = absurd (other is)
own_refusal e want says (inr own) other = own

-- what was taken is what is judged
pub judged_takes : {S A B E : Type 0} (tells : S → Type 0) (left : S → List ℕ) (known : S → Option ℕ) (faults : S → ℕ)
    (causes : Causes E) (reads : List ℕ → Result (B × List ℕ) E) (used : List ℕ → ℕ) (judge : B → Result A E)
    (b : B) (r : Result A E) (old new : S)
    → Takes tells left known faults causes reads used (Ok b) old new
    → Gives causes.no_memory (λ v. v) r (judge b) → IfErr r (λ e. e ≢ causes.fault)
    → Takes tells left known faults causes (read_judged reads judge) used r old new
judged_takes tells left known faults causes reads used judge b (Ok v) old new takes gives no_fault = record {
  answers = λ t.
      ap (λ found. and_then found (λ f. and_then (judge f.0) (λ x. Ok (x, f.1)))) (takes.answers t)
      ∙ ap (λ s. and_then s (λ x. Ok (x, left new))) gives;
  within = takes.within;
  whole = takes.whole;
  cut = λ t other. cc other;
  front = takes.front;
  told = takes.told;
  knows = takes.knows;
  fault = λ other. cc other;
  calm = takes.calm;
}
judged_takes tells left known faults causes reads used judge b (Err e) old new takes gives no_fault = record {
  answers = λ t other kept.
      ap (λ found. and_then found (λ f. and_then (judge f.0) (λ x. Ok (x, f.1)))) (takes.answers t)
      ∙ ap (λ s. and_then s (λ x. Ok (x, left new))) (own_refusal e causes.no_memory (judge b) gives kept);
  within = takes.within;
  whole = λ t other kept no_end. takes.whole t;
  cut = λ t is. absurd (no_fault (cc is));
  front = takes.front;
  told = takes.told;
  knows = takes.knows;
  fault = λ is. absurd (no_fault (cc is));
  calm = λ other. takes.calm;
}

-- and its error is one that some bytes have
pub judged_cause : {A B E : Type 0} (causes : Causes E) (reads : List ℕ → Result (B × List ℕ) E) (judge : B → Result A E)
    (b : B) (r : Result A E) (fault : Type 0) (bytes rest : List ℕ) → reads bytes ≡ Ok (b, rest)
    → Gives causes.no_memory (λ v. v) r (judge b) → IfErr r (HasCause causes (read_judged reads judge) fault)
judged_cause causes reads judge b (Ok v) fault bytes rest read gives = tt
judged_cause causes reads judge b (Err e) fault bytes rest read (inl want) = inr (inl want)
judged_cause causes reads judge b (Err e) fault bytes rest read (inr refused) =
    inr (inr (
      bytes,
      ap (λ found. and_then found (λ f. and_then (judge f.0) (λ x. Ok (x, f.1)))) read
          ∙ ap (λ s. and_then s (λ x. Ok (x, rest))) refused,
    ))
