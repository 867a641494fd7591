-- Lemmas on commands that read the source and the one that doesn't.
use Rattle.std.proofs.Common.{◌≡◌, ◌≢◌, ◌<◌, ◌≤◌, ◌&&◌, ◌⊎◌, ℕ, List, [], length, nat_le, true, false, Bool}
use Rattle.std.proofs.Common.{Result, Ok, Err}
use Rattle.std.proofs.Common.{if◌then◌else◌, inl, inr, refl, sym, subst, arith}
use Rattle.std.proofs.lemmas.Str.{IsUtf8-nil}
use Rattle.std.specs.Str.{IsUtf8, is_utf8}
use Rattle.picky_conversion.specs.Certified.{SignRelation}
use Rattle.picky_convert.specs.declared.command.Command.{Command}
use Rattle.picky_convert.specs.declared.command.Command.TheVariants as commands
use Rattle.picky_convert.specs.declared.error.Status.{Status}
use Rattle.picky_convert.specs.declared.error.Status.TheVariants as statuses
use Rattle.picky_conversion.specs.Made.{Whole}
use Rattle.picky_conversion.specs.Outside.{Outside}
use Rattle.picky_convert.specs.Sample.{sample_text}
use Rattle.picky_convert.specs.Command.{answering_asks, reads_source}
use Rattle.picky_input.specs.Extent.{Anywhere, Extent, LeavesAt, ReadsInput, ToEnd, ToFault, Untouched}
use Rattle.picky_input.specs.Input.{TakesInput}
use Rattle.picky_convert.specs.Run.{extent_for, extent_of, input_for, input_limit, outcome, outcome_asks}
use Rattle.picky_convert.specs.inner.Causes.{extent_at, Comes}
use Rattle.picky_convert.proofs.CauseLemmas.{long_of}
use Rattle.picky_convert.proofs.OutcomeLemmas.{outcome_done}

-- what is read is all, or nothing

pub read_all : (command : Command) (left : List ℕ) → reads_source command ≡ true → input_for command left ≡ left
read_all command left reads = rw reads refl

pub read_nothing : (command : Command) (left : List ℕ) → reads_source command ≡ false → input_for command left ≡ []
read_nothing command left none = rw none refl

-- so what is read is no longer than what is left, and is a text where that is
pub no_longer : (command : Command) (left : List ℕ) (limit : ℕ) → limit < length (input_for command left) → limit < length left
no_longer command left limit = go (reads_source command)
  where
    go : (b : Bool) → limit < length (if b then left else []) → limit < length left
    go true long = long
    go false long = absurd (omega (arith, long))

pub text_read : (command : Command) (left : List ℕ) → IsUtf8 left → IsUtf8 (input_for command left)
text_read command left utf8 = go (reads_source command)
  where
    go : (b : Bool) → IsUtf8 (if b then left else [])
    go true = utf8
    go false = IsUtf8-nil

-- ---- a sample comes to its summary, for which no device is asked

summary_is : (o : Outside) (keys : ℕ) (input : List ℕ) → length input ≤ input_limit → IsUtf8 input
    → outcome o (commands.Sample keys) input ≡ Ok (Whole (sample_text o.meanings keys))
summary_is o keys input short utf8 = outcome_done o (commands.Sample keys) input (Whole (sample_text o.meanings keys)) short utf8 refl

asks_none : (o : Outside) (command : Command) (input : List ℕ) → reads_source command ≡ false → answering_asks o command input ≡ false
asks_none o (commands.Convert target) input none = cc none
asks_none o (commands.Certify options) input none = cc none
asks_none o (commands.PrintSigned options) input none = cc none
asks_none o commands.Fingerprint input none = cc none
asks_none o (commands.Sample keys) input none = refl

pub comes_to : (o : Outside) (command : Command) → reads_source command ≡ false → (text : List ℕ) × (outcome o command [] ≡ Ok (Whole text))
comes_to o (commands.Convert target) none = cc none
comes_to o (commands.Certify options) none = cc none
comes_to o (commands.PrintSigned options) none = cc none
comes_to o commands.Fingerprint none = cc none
comes_to o (commands.Sample keys) none = (sample_text o.meanings keys, summary_is o keys [] (omega arith) IsUtf8-nil)

pub asks_nothing : (o : Outside) (command : Command) → reads_source command ≡ false → outcome_asks o command [] ≡ false
unfolding outcome_asks
asks_nothing o command none = rw (asks_none o command [] none) (never (nat_le 0 input_limit && is_utf8 []))
  where
    never : (b : Bool) → (b && false) ≡ false
    never true = refl
    never false = refl

-- ---- what a source is left with

-- what is said of one extent is said of an equal one
pub reads_as : {I : Type 0} (tells : I → Type 0) (left : I → List ℕ) (faults : I → ℕ) (at extent : Extent) (old new : I) → extent ≡ at
    → (tells old → tells new) → (tells old → TakesInput (left old) (left new)) → (tells old → LeavesAt at (left old) (left new))
    → (at ≡ Untouched → new ≡ old) → (at ≢ ToFault → faults new ≡ faults old) → ReadsInput tells left faults extent old new
reads_as tells left faults at extent old new is told taken leaves unread calm =
    subst (λ e. ReadsInput tells left faults e old new) (sym is)
    (record { told = told; taken = taken; leaves = leaves; unread = unread; calm = calm })

nothing_taken : (left : List ℕ) → TakesInput left left
nothing_taken left = record { taken = []; are = refl; few = omega arith }

pub untouched : {I : Type 0} (tells : I → Type 0) (left : I → List ℕ) (faults : I → ℕ) (extent : Extent) (source : I)
    → extent ≡ Untouched → ReadsInput tells left faults extent source source
untouched tells left faults extent source is =
    reads_as tells left faults Untouched extent source source is (λ told. told) (λ told. nothing_taken (left source)) (λ told. refl)
    (λ none. refl) (λ other. refl)

pub extent_read : (command : Command) (status : Status) → reads_source command ≡ true → extent_for command status ≡ extent_of status
extent_read command status reads = rw reads refl

-- what a command answers that was given all bytes of its source leaves that at its end, unless memory ran out
at_end : {X : Type 0} (signs : SignRelation) (view : X → List ℕ) (o : Outside) (command : Command) (input : List ℕ)
    (suite_rose signer_rose : Type 0) (r : Result X Status) → reads_source command ≡ true → length input ≤ input_limit
    → Comes signs view o command input ⊥ suite_rose signer_rose r → (extent_at command r ≡ ToEnd) ⊎ (extent_at command r ≡ Anywhere)
at_end signs view o command input suite_rose signer_rose (Ok text) reads short comes = inl (extent_read command statuses.Done reads)
at_end signs view o command input suite_rose signer_rose (Err statuses.Done) reads short comes = absurd comes
at_end signs view o command input suite_rose signer_rose (Err statuses.Usage) reads short comes = absurd comes
at_end signs view o command input suite_rose signer_rose (Err statuses.WriteFault) reads short comes = absurd comes
at_end signs view o command input suite_rose signer_rose (Err statuses.ReadFault) reads short comes = absurd comes.1
at_end signs view o command input suite_rose signer_rose (Err statuses.NoMemory) reads short comes =
    inr (extent_read command statuses.NoMemory reads)
at_end signs view o command input suite_rose signer_rose (Err statuses.OutsideFault) reads short comes =
    inl (extent_read command statuses.OutsideFault reads)
at_end signs view o command input suite_rose signer_rose (Err (statuses.Refused e)) reads short comes =
    inl (extent_read command (statuses.Refused e) reads)
at_end signs view o command input suite_rose signer_rose (Err statuses.InputTooLong) reads short comes =
    absurd (omega (arith, short, long_of o command input comes))
at_end signs view o command input suite_rose signer_rose (Err statuses.InputNotUtf8) reads short comes =
    inl (extent_read command statuses.InputNotUtf8 reads)

pub read_whole : {I X : Type 0} (tells : I → Type 0) (left : I → List ℕ) (faults : I → ℕ) (signs : SignRelation) (view : X → List ℕ)
    (o : Outside) (command : Command) (input : List ℕ) (suite_rose signer_rose : Type 0) (r : Result X Status) (old new : I)
    → reads_source command ≡ true → length input ≤ input_limit → Comes signs view o command input ⊥ suite_rose signer_rose r
    → (tells old → tells new) → (tells old → TakesInput (left old) (left new)) → (tells old → left new ≡ [])
    → faults new ≡ faults old → ReadsInput tells left faults (extent_at command r) old new
read_whole tells left faults signs view o command input suite_rose signer_rose r old new reads short comes told taken end calm =
    elim (at_end signs view o command input suite_rose signer_rose r reads short comes) [
      | inl is ↦ reads_as tells left faults ToEnd (extent_at command r) old new is told taken end (λ none. cc none) (λ other. calm)
      | inr is ↦
          reads_as tells left faults Anywhere (extent_at command r) old new is told taken (λ t. tt) (λ none. cc none) (λ other. calm)
    ]
