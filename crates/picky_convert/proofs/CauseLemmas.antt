-- Which statuses a run can have for the bytes of its source.
use Rattle.std.proofs.Common.{◌≡◌, ℕ, ◌<◌, ◌++◌, List, length, Bool, true, false, Result, Ok, Err, refl, sym, ap, subst, nat_lt}
use Rattle.std.proofs.Common.{if◌then◌else◌, ◌⊎◌, inl, inr}
use Rattle.std.proofs.lemmas.Bool.{lt-ltb, ltb-true}
use Rattle.std.proofs.lemmas.Str.{is_utf8-from_IsUtf8}
use Rattle.std.specs.Str.{IsUtf8, is_utf8}
use Rattle.picky_wire_base.specs.Outcome.{map_err}
use Rattle.picky_target.specs.declared.error.ConvertError.{ConvertError}
use Rattle.picky_target.specs.declared.error.ConvertError.TheVariants as errors
use Rattle.picky_conversion.specs.Certified.{SignRelation}
use Rattle.picky_convert.specs.declared.command.Command.{Command}
use Rattle.picky_convert.specs.declared.error.Status.{Status}
use Rattle.picky_convert.specs.declared.error.Status.TheVariants as statuses
use Rattle.picky_convert.specs.Command.{answer}
use Rattle.picky_conversion.specs.Made.{Made, WritesMade, is_signed}
use Rattle.picky_conversion.specs.Outside.{Outside}
use Rattle.picky_wire.specs.Count.{Rose}
use Rattle.picky_convert.specs.Run.{input_limit, outcome, outcome_asks, outcome_signs, Ends, IsOutsideFault, IsTooLongFor, Moment, RefusesInput}
use Rattle.picky_conversion.proofs.CertifyLemmas.{own_length}
use Rattle.picky_conversion.proofs.JudgedLemmas.{IsOwnConvert}
use Rattle.picky_convert.proofs.OutcomeLemmas.{answer_is_own}

-- ---- the statuses of an outcome

-- the status says why the command comes to nothing for these bytes
pub data Cause (o : Outside) (command : Command) (input : List ℕ) (status : Status) : Type 0 where
  TooLong : input_limit < length input → status ≡ statuses.InputTooLong → Cause o command input status
  NoText : (IsUtf8 input → ⊥) → status ≡ statuses.InputNotUtf8 → Cause o command input status
  Refused : (e : ConvertError) → answer o command input ≡ Err e → status ≡ statuses.Refused e → Cause o command input status

refusal : (o : Outside) (command : Command) (input : List ℕ) (r : Result Made ConvertError) (status : Status)
    → answer o command input ≡ r → map_err statuses.Refused r ≡ Err status → Cause o command input status
refusal o command input (Ok made) status is refused = cc refused
refusal o command input (Err e) status is refused = Refused e is (cc refused)

outcome_err : (o : Outside) (command : Command) (input : List ℕ) (status : Status) → outcome o command input ≡ Err status
    → Cause o command input status
unfolding outcome
outcome_err o command input status refused = go (nat_lt input_limit (length input)) (is_utf8 input) refl refl refused
  where
    go : (long utf8 : Bool) → nat_lt input_limit (length input) ≡ long → is_utf8 input ≡ utf8
        → (if long then Err statuses.InputTooLong else if utf8 then map_err statuses.Refused (answer o command input)
        else Err statuses.InputNotUtf8) ≡ Err status
        → Cause o command input status
    go true utf8 long_is utf8_is same = TooLong (ltb-true input_limit (length input) long_is) (cc same)
    go false true long_is utf8_is same = refusal o command input (answer o command input) status refl same
    go false false long_is utf8_is same = NoText (λ is. cc (utf8_is, is_utf8-from_IsUtf8 input is)) (cc same)

-- more bytes than the limit
pub outcome_long : (o : Outside) (command : Command) (input : List ℕ) → input_limit < length input
    → outcome o command input ≡ Err statuses.InputTooLong
unfolding outcome
outcome_long o command input long = rw (lt-ltb input_limit (length input) long) refl

-- ---- and back: what an outcome's status says of the bytes

pub long_of : (o : Outside) (command : Command) (input : List ℕ) → outcome o command input ≡ Err statuses.InputTooLong
    → input_limit < length input
long_of o command input refused = elim (outcome_err o command input statuses.InputTooLong refused) [
  | TooLong long is ↦ long
  | NoText none is ↦ cc is
  | Refused e why is ↦ cc is
]

pub no_text_of : (o : Outside) (command : Command) (input : List ℕ) → outcome o command input ≡ Err statuses.InputNotUtf8
    → IsUtf8 input → ⊥
no_text_of o command input refused = elim (outcome_err o command input statuses.InputNotUtf8 refused) [
  | TooLong long is ↦ cc is
  | NoText none is ↦ none
  | Refused e why is ↦ cc is
]

-- a refusal neither says that memory ran out nor that a device failed
pub refused_is_own : (signs : SignRelation) (o : Outside) (command : Command) (input : List ℕ) (e : ConvertError)
    → RefusesInput signs (outcome o command input) e → IsOwnConvert e
refused_is_own signs o command input e (inl refused) = elim (outcome_err o command input (statuses.Refused e) refused) [
  | TooLong long is ↦ cc is
  | NoText none is ↦ cc is
  | Refused f why is ↦ let same : f ≡ e = cc is in subst IsOwnConvert same (answer_is_own o command input f why)
]
refused_is_own signs o command input e (inr long) = subst IsOwnConvert (sym long.0) own_length

-- ---- how a run ends where nothing was counted

-- no fault from outside is one where none was counted that could be
no_outside : (o : Outside) (command : Command) (input : List ℕ) (suite_rose signer_rose : Type 0)
    → IsOutsideFault o command input suite_rose signer_rose → (outcome_asks o command input ≡ true → suite_rose → ⊥)
    → (outcome_signs o command input ≡ true → signer_rose → ⊥) → ⊥
no_outside o command input suite_rose signer_rose (inl fault) calm still = calm fault.0 fault.1
no_outside o command input suite_rose signer_rose (inr fault) calm still = still fault.0 fault.1

-- what a run that is done wrote
pub wrote_all : (signs : SignRelation) (o : Outside) (command : Command) (input : List ℕ) (tells : Type 0) (old new : Moment) (status : Status)
    → status ≡ statuses.Done → Ends signs o command input tells old new status
    → (text : List ℕ) × WritesMade signs (outcome o command input) text × (tells → new.written ≡ old.written ++ text)
wrote_all signs o command input tells old new status is ends = subst (λ s. Ends signs o command input tells old new s) is ends

-- where the command comes to something and nothing was counted, the run is done, wants memory, or the signature was too long
pub settled : (signs : SignRelation) (o : Outside) (command : Command) (input : List ℕ) (tells : Type 0) (old new : Moment) (status : Status)
    (made : Made) → outcome o command input ≡ Ok made → (Rose old.source_faults new.source_faults → ⊥)
    → (Rose old.sink_faults new.sink_faults → ⊥)
    → (outcome_asks o command input ≡ true → Rose old.suite_faults new.suite_faults → ⊥)
    → (outcome_signs o command input ≡ true → Rose old.signer_faults new.signer_faults → ⊥)
    → Ends signs o command input tells old new status → (status ≡ statuses.Done) ⊎ (status ≡ statuses.NoMemory)
    ⊎ ((status ≡ statuses.Refused errors.TooLong) × IsTooLongFor signs (outcome o command input))
settled signs o command input tells old new statuses.Done made ok calm_in calm_out calm still ends = inl refl
settled signs o command input tells old new statuses.Usage made ok calm_in calm_out calm still ends = absurd ends
settled signs o command input tells old new statuses.WriteFault made ok calm_in calm_out calm still ends = absurd (calm_out ends.3)
settled signs o command input tells old new statuses.NoMemory made ok calm_in calm_out calm still ends = inr (inl refl)
settled signs o command input tells old new statuses.ReadFault made ok calm_in calm_out calm still ends = absurd (calm_in ends.1)
settled signs o command input tells old new statuses.OutsideFault made ok calm_in calm_out calm still ends =
    absurd (no_outside o command input _ _ ends calm still)
settled signs o command input tells old new (statuses.Refused e) made ok calm_in calm_out calm still (inl refused) = cc (ok, refused)
settled signs o command input tells old new (statuses.Refused e) made ok calm_in calm_out calm still (inr long) =
    inr (inr (ap statuses.Refused long.0, long.1))
settled signs o command input tells old new statuses.InputTooLong made ok calm_in calm_out calm still ends = cc (ok, ends)
settled signs o command input tells old new statuses.InputNotUtf8 made ok calm_in calm_out calm still ends = cc (ok, ends)

-- where it comes to nothing, the run ends so, or wants memory
pub ends_so : (signs : SignRelation) (o : Outside) (command : Command) (input : List ℕ) (tells : Type 0) (old new : Moment)
    (status said : Status) → outcome o command input ≡ Err said → (Rose old.source_faults new.source_faults → ⊥)
    → (outcome_asks o command input ≡ true → Rose old.suite_faults new.suite_faults → ⊥)
    → Ends signs o command input tells old new status → (status ≡ said) ⊎ (status ≡ statuses.NoMemory)
ends_so signs o command input tells old new statuses.Done said refused calm_in calm ends = let found = ends.1 in cc (refused, found.1)
ends_so signs o command input tells old new statuses.Usage said refused calm_in calm ends = absurd ends
ends_so signs o command input tells old new statuses.WriteFault said refused calm_in calm ends =
    let found = ends.1 in cc (refused, found.1)
ends_so signs o command input tells old new statuses.NoMemory said refused calm_in calm ends = inr refl
ends_so signs o command input tells old new statuses.ReadFault said refused calm_in calm ends = absurd (calm_in ends.1)
ends_so signs o command input tells old new statuses.OutsideFault said refused calm_in calm ends =
    absurd (no_outside o command input _ _ ends calm (λ signed. let none = ap is_signed refused in cc (none, signed)))
ends_so signs o command input tells old new (statuses.Refused e) said refused calm_in calm (inl so) = inl (cc (refused, so))
ends_so signs o command input tells old new (statuses.Refused e) said refused calm_in calm (inr long) =
    let made = long.1 in cc (refused, made.1)
ends_so signs o command input tells old new statuses.InputTooLong said refused calm_in calm ends = inl (cc (refused, ends))
ends_so signs o command input tells old new statuses.InputNotUtf8 said refused calm_in calm ends = inl (cc (refused, ends))
