-- What a call promises that may ask a suite, after it has judged what it was given.
use Rattle.std.specs.Prelude.{◌≡◌, ◌⊎◌, ◌+◌, ◌≤◌, ℕ, Bool, false, Result, Ok, Err}
use Rattle.picky_wire.specs.Count.{Rose}
use Rattle.picky_wire.specs.Takes.{Calm}
use Rattle.picky_suite.specs.Meanings.{Meanings}
use Rattle.picky_suite.specs.Failures.{IsAskedFault}

-- a device was asked at most so often
abbrev pub IsAskedAtMost : {S : Type 0} → (n : ℕ) → (calls : S → ℕ) → (old new : S) → Type 0
IsAskedAtMost n calls old new = calls new ≤ n + calls old

-- the call answers what the definition says, seen by view; in its place want of memory may come, or the device's fault,
-- where the device was asked and counted one
abbrev pub GivesAsked : {X A E : Type 0} → (want fault : E) → (X → A) → Result X E → Result A E → Bool → Type 0
    → Type 0
GivesAsked want fault view (Ok x) says asked rose = says ≡ Ok (view x)
GivesAsked want fault view (Err e) says asked rose =
    (e ≡ want) ⊎ ((e ≡ fault) × IsAskedFault asked rose) ⊎ (says ≡ Err e)

-- what the calls mean stays; a fault is counted exactly where it is answered; and a suite that isn't asked is as it was
pub record LeavesSuite {S A E : Type 0} (meanings : S → Meanings) (faults : S → ℕ) (fault : E) (asked : Bool)
    (result : Result A E) (old new : S) : Type 0 where
  pub kept : meanings new ≡ meanings old
  pub counted : result ≡ Err fault → Rose (faults old) (faults new)
  pub calm : Calm fault result (faults old) (faults new)
  pub unasked : asked ≡ false → new ≡ old
