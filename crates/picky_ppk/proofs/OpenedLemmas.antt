-- Lemmas on what opening a file answers.
use Rattle.std.proofs.Common.{◌≡◌, ◌≢◌, ℕ, List, Result, Ok, Err}
use Rattle.picky_wire_base.specs.Flaw.{Flaw, Short, NotUtf8, Big}
use Rattle.picky_wire_base.specs.Outcome.{and_then, map_err}
use Rattle.picky_kv.specs.declared.algorithm.PpkKeyAlgorithmValue.{PpkKeyAlgorithmValue}
use Rattle.picky_kv.specs.Algorithm.{mpint_values_count}
use Rattle.picky_ppk_parts.specs.declared.error.PuttyError.{PuttyError}
use Rattle.picky_ppk_parts.specs.declared.error.PuttyError.TheVariants as errors
use Rattle.picky_ppk_parts.specs.PartsRefusal.{parts_flaw_error}
use Rattle.picky_ppk_parts.specs.Counted.{strings, counted}

-- A flaw of a field is no fault.
flaw_no_fault : (flaw : Flaw) → parts_flaw_error flaw ≢ errors.SuiteFault
flaw_no_fault Short = λ same. cc same
flaw_no_fault NotUtf8 = λ same. cc same
flaw_no_fault Big = λ same. cc same

outcome_no_fault : {A B : Type 0} (r : Result A Flaw) (next : A → B) (e : PuttyError)
    → and_then (map_err parts_flaw_error r) (λ x. Ok (next x)) ≡ Err e → e ≢ errors.SuiteFault
outcome_no_fault (Ok x) next e is = cc is
outcome_no_fault (Err flaw) next e is =
    let same : parts_flaw_error flaw ≡ e = cc is in λ fault. flaw_no_fault flaw (cc (same, fault))

-- A string that is cut is none.
pub counted_no_fault : (algorithm : PpkKeyAlgorithmValue) (private : List ℕ) (e : PuttyError)
    → counted algorithm private ≡ Err e → e ≢ errors.SuiteFault
unfolding counted
counted_no_fault algorithm private e is =
    outcome_no_fault ((strings (mpint_values_count algorithm)).read private) _ e is

pub ruleset no_fault = (counted_no_fault)
