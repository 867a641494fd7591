-- What a call that reads from a source answers, what it takes and what it leaves.
use Rattle.std.specs.Prelude.{◌≡◌, ◌≢◌, ◌<◌, ◌≤◌, ◌+◌, ◌-◌}
use Rattle.std.specs.Prelude.{◌++◌, ◌⊎◌, ℕ, List, Option, IsSome, length, Result, Ok, Err}
use Rattle.picky_wire_base.specs.Wire.{string}
use Rattle.picky_wire_base.specs.Short.{EndsInString}
use Rattle.picky_wire.specs.declared.error.WireError.{WireError}
use Rattle.picky_wire.specs.declared.error.WireError.TheVariants as errors
use Rattle.picky_wire.specs.Count.{Rose}

-- the errors that say that the source failed, that memory ran out, and that the bytes end too early
pub record Causes (E : Type 0) : Type 0 where
  pub fault : E
  pub no_memory : E
  pub short : E

-- the same, where each of the wire's errors has its place in the layer's
abbrev pub causes_of : {E : Type 0} → (WireError → E) → Causes E
causes_of error = record {
  fault = error errors.ReadFault;
  no_memory = error errors.NoMemory;
  short = error errors.UnexpectedEnd;
}

-- the value in front, and exactly what follows it is left; or the bytes' own error, unless the source
-- failed or memory ran out
abbrev pub Answers : {A E : Type 0} → Causes E → (List ℕ → Result (A × List ℕ) E) → Result A E
    → List ℕ → List ℕ → Type 0
Answers causes reads (Ok value) before after = reads before ≡ Ok (value, after)
Answers causes reads (Err e) before after =
    e ≢ causes.fault → e ≢ causes.no_memory → reads before ≡ Err e

-- exactly the value's bytes were taken, or those up to the end of the field that is refused, where it is whole
abbrev pub TakesWhole : {A E : Type 0} → Causes E → ℕ → Result A E → List ℕ → List ℕ → Type 0
TakesWhole causes used (Ok value) before after = length after ≡ length before - used
TakesWhole causes used (Err e) before after =
    e ≢ causes.fault → e ≢ causes.no_memory → e ≢ causes.short → length after ≡ length before - used

-- no fault was counted but for the one that is answered
abbrev pub Calm : {A E : Type 0} → E → Result A E → ℕ → ℕ → Type 0
Calm fault (Ok value) before after = after ≡ before
Calm fault (Err e) before after = e ≢ fault → after ≡ before

-- the bytes are some bytes and then the rest
pub record EndsIn (bytes rest : List ℕ) : Type 0 where
  pub taken : List ℕ
  pub are : bytes ≡ taken ++ rest

-- what a call promises that reads a value from a source
pub record Takes {S A E : Type 0} (tells : S → Type 0) (left : S → List ℕ) (known : S → Option ℕ)
    (faults : S → ℕ) (causes : Causes E) (reads : List ℕ → Result (A × List ℕ) E)
    (used : List ℕ → ℕ) (result : Result A E) (old new : S) : Type 0 where
  pub answers : tells old → Answers causes reads result (left old) (left new)
  -- no byte past the value was taken, nor past the field that is refused
  pub within : tells old → length (left old) ≤ used (left old) + length (left new)
  pub whole : tells old → TakesWhole causes (used (left old)) result (left old) (left new)
  -- a source fails before all of them were taken
  pub cut : tells old → result ≡ Err causes.fault → length (left old) < used (left old) + length (left new)
  -- what was taken stood in front
  pub front : tells old → (bytes : List ℕ) → EndsIn bytes (left old) → EndsIn bytes (left new)
  pub told : tells old → tells new
  pub knows : IsSome (known old) → IsSome (known new)
  pub fault : result ≡ Err causes.fault → Rose (faults old) (faults new)
  pub calm : Calm causes.fault result (faults old) (faults new)

-- a string that is all there is taken whole, whatever it holds
abbrev pub TakesString : {A E : Type 0} → Causes E → Result A E → List ℕ → List ℕ → Type 0
TakesString causes (Ok value) before after = Unit {0}
TakesString causes (Err e) before after =
    e ≢ causes.fault → e ≢ causes.no_memory → (EndsInString before → ⊥)
    → length after ≡ length before - string.used before

-- some bytes are refused with this error
abbrev pub Refuses : {A E : Type 0} → (List ℕ → Result (A × List ℕ) E) → E → Type 0
Refuses reads e = (bytes : List ℕ) × (reads bytes ≡ Err e)

-- why a call that reads is refused, whether or not the source tells its bytes
abbrev pub HasCause : {A E : Type 0} → Causes E → (List ℕ → Result (A × List ℕ) E) → Type 0 → E
    → Type 0
HasCause causes reads fault e =
    ((e ≡ causes.fault) × fault) ⊎ (e ≡ causes.no_memory) ⊎ Refuses reads e

-- the source failed and counted it, or the bytes end too early
abbrev pub StopsShort : {E : Type 0} → Causes E → Type 0 → E → Type 0
StopsShort causes fault e = ((e ≡ causes.fault) × fault) ⊎ (e ≡ causes.short)
