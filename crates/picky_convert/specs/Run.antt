-- A run: what it writes for the bytes of its source, and how it ends.
use Rattle.std.specs.Prelude.{◌≡◌, ◌⊎◌, ◌++◌, ◌≤◌, ◌&&◌, ◌↔◌, List, [], ℕ, Bool, true, length, nat_lt, nat_le, Result, Err}
use Rattle.std.specs.Prelude.{Ok, Option, Some, None, if◌then◌else◌}
use Rattle.std.specs.Str.{IsUtf8, is_utf8}
use Rattle.picky_wire_base.specs.Outcome.{map_err}
use Rattle.picky_wire.specs.Count.{Rose}
use Rattle.picky_wire.specs.Puts.{Puts}
pub use Rattle.picky_input.specs.Input.{input_limit}
use Rattle.picky_input.specs.Extent.{Extent, Anywhere, PastLimit, ToEnd, ToFault, Untouched, LeavesDevice, WritesPrefix}
use Rattle.picky_wire.specs.declared.error.WireError.{WireError}
use Rattle.picky_wire.specs.declared.error.WireError.TheVariants as wire
use Rattle.picky_keys.specs.declared.algorithm.SignatureAlgorithm.{SignatureAlgorithm}
use Rattle.picky_keys.specs.declared.public_key.PublicKey.{PublicKey}
use Rattle.picky_suite.specs.Meanings.{Meanings}
use Rattle.picky_target.specs.declared.error.ConvertError.{ConvertError}
use Rattle.picky_target.specs.declared.error.ConvertError.TheVariants as errors
use Rattle.picky_conversion.specs.Certified.{SignRelation}
use Rattle.picky_convert.specs.declared.error.Status.{Status}
use Rattle.picky_convert.specs.declared.error.Status.TheVariants as statuses
use Rattle.picky_convert.specs.declared.command.Command.{Command}
use Rattle.picky_conversion.specs.Outside.{Outside}
use Rattle.picky_convert.specs.Command.{answer, answering_asks, CanAnswer, IsAnswer, reads_source}
use Rattle.picky_convert.specs.Report.{report}
use Rattle.picky_conversion.specs.Made.{CanBeTooLong, Made, WritesMade, is_signed}

-- the bytes that the command reads of what a source has left: all of them, or none
abbrev pub input_for : Command → (left : List ℕ) → List ℕ
input_for command left = if reads_source command then left else []

-- how far the source was read when a run ends so
abbrev pub extent_of : Status → Extent
extent_of statuses.Done = ToEnd
extent_of (statuses.Refused e) = ToEnd
extent_of statuses.Usage = Untouched
extent_of statuses.ReadFault = ToFault
extent_of statuses.WriteFault = ToEnd
extent_of statuses.OutsideFault = ToEnd
extent_of statuses.NoMemory = Anywhere
extent_of statuses.InputTooLong = PastLimit
extent_of statuses.InputNotUtf8 = ToEnd

-- the same of a command, which may read nothing, and of words, which may name none
abbrev pub extent_for : Command → Status → Extent
extent_for command status = if reads_source command then extent_of status else Untouched

abbrev pub extent_by : Option Command → Status → Extent
extent_by (Some command) status = extent_for command status
extent_by None status = Untouched

-- what the command comes to for these bytes before a device signs, or the status that says why it comes to nothing
unfoldable pub outcome : Outside → Command → List ℕ → Result Made Status
outcome o command input =
    if nat_lt input_limit (length input) then Err statuses.InputTooLong
    else if is_utf8 input then map_err statuses.Refused (answer o command input)
    else Err statuses.InputNotUtf8

-- the suite is asked for it
unfoldable pub outcome_asks : Outside → Command → List ℕ → Bool
outcome_asks o command input = nat_le (length input) input_limit && is_utf8 input && answering_asks o command input

-- a device is asked to sign for it
abbrev pub outcome_signs : Outside → Command → List ℕ → Bool
outcome_signs o command input = is_signed (outcome o command input)

-- a fault from outside: the suite's, where it was asked and counted one, or the signer's
abbrev pub IsOutsideFault : Outside → Command → List ℕ → (suite_rose signer_rose : Type 0) → Type 0
IsOutsideFault o command input suite_rose signer_rose =
    ((outcome_asks o command input ≡ true) × suite_rose) ⊎ ((outcome_signs o command input ≡ true) × signer_rose)

-- the bytes are a text for which the command comes to something
pub record IsValid (o : Outside) (command : Command) (input : List ℕ) : Type 0 where
  pub short : length input ≤ input_limit
  pub utf8 : IsUtf8 input
  pub can_answer : CanAnswer o command input

-- what the command writes for these bytes was written after those
pub record WritesAnswer (signs : SignRelation) (o : Outside) (command : Command) (input before after : List ℕ) : Type 0 where
  pub text : List ℕ
  pub is_answer : IsAnswer signs o command input text
  pub written : after ≡ before ++ text

-- the line was put: all of it and no fault was counted, or a prefix of it and one was
abbrev pub Says : {S : Type 0} → (S → Type 0) → (S → List ℕ) → (S → ℕ) → List ℕ → S → S → Type 0
Says tells written faults line old new =
    (r : Result (Unit {0}) WireError) × Puts tells written faults wire.WriteFault line r old new

-- there is a good signature with which the line is too long
abbrev pub IsTooLongFor : SignRelation → Result Made Status → Type 0
IsTooLongFor signs for_input = (made : Made) × (for_input ≡ Ok made) × CanBeTooLong signs made

-- the bytes are refused so, or by the length of a signature
abbrev pub RefusesInput : SignRelation → Result Made Status → ConvertError → Type 0
RefusesInput signs for_input e = (for_input ≡ Err (statuses.Refused e)) ⊎ ((e ≡ errors.TooLong) × IsTooLongFor signs for_input)

-- ---- how a run ends

-- the cause of a status for which no text is written
abbrev pub Stops : SignRelation → Outside → Command → (input : List ℕ) → (read_rose suite_rose signer_rose : Type 0)
    → Status → Type 0
Stops signs o command input read_rose suite_rose signer_rose statuses.Done = ⊥
Stops signs o command input read_rose suite_rose signer_rose statuses.Usage = ⊥
Stops signs o command input read_rose suite_rose signer_rose statuses.WriteFault = ⊥
Stops signs o command input read_rose suite_rose signer_rose statuses.NoMemory = Unit {0}
Stops signs o command input read_rose suite_rose signer_rose statuses.ReadFault = (reads_source command ≡ true) × read_rose
Stops signs o command input read_rose suite_rose signer_rose statuses.OutsideFault =
    IsOutsideFault o command input suite_rose signer_rose
Stops signs o command input read_rose suite_rose signer_rose (statuses.Refused e) = RefusesInput signs (outcome o command input) e
Stops signs o command input read_rose suite_rose signer_rose statuses.InputTooLong =
    outcome o command input ≡ Err statuses.InputTooLong
Stops signs o command input read_rose suite_rose signer_rose statuses.InputNotUtf8 =
    outcome o command input ≡ Err statuses.InputNotUtf8

-- what was written and the counts of faults at one moment
pub record Moment : Type 0 where
  pub written : List ℕ
  pub source_faults : ℕ
  pub sink_faults : ℕ
  pub suite_faults : ℕ
  pub signer_faults : ℕ

abbrev pub moment : (written : List ℕ) → (source_faults sink_faults suite_faults signer_faults : ℕ) → Moment
moment written source_faults sink_faults suite_faults signer_faults = record {
  written = written;
  source_faults = source_faults;
  sink_faults = sink_faults;
  suite_faults = suite_faults;
  signer_faults = signer_faults;
}

-- what a status says of a run over these bytes: that the whole text was written, to a sink that tells, that a prefix was before a
-- fault, or why there is no text
abbrev pub Ends : SignRelation → Outside → Command → (input : List ℕ) → (tells : Type 0) → (old new : Moment)
    → Status → Type 0
Ends signs o command input tells old new statuses.Done =
    (text : List ℕ) × WritesMade signs (outcome o command input) text × (tells → new.written ≡ old.written ++ text)
Ends signs o command input tells old new statuses.WriteFault =
    (text : List ℕ) × WritesMade signs (outcome o command input) text × (tells → WritesPrefix text old.written new.written)
    × Rose old.sink_faults new.sink_faults
Ends signs o command input tells old new status =
    Stops signs o command input (Rose old.source_faults new.source_faults) (Rose old.suite_faults new.suite_faults)
    (Rose old.signer_faults new.signer_faults) status

-- ---- what it leaves

-- the suite and the signer; a fault of no more than one of them was counted
pub record Devices {S G : Type 0} (meanings : S → Meanings) (suite_faults : S → ℕ) (signs : G → SignRelation)
    (signer_faults : G → ℕ) (failed unasked unsigned : Type 0) (old new : S) (before after : G) : Type 0 where
  pub suite : LeavesDevice (meanings new ≡ meanings old) suite_faults failed unasked old new
  pub signer : LeavesDevice ((k : PublicKey) (a : SignatureAlgorithm) (m s : List ℕ) → signs after k a m s ↔ signs before k a m s)
      signer_faults failed unsigned before after
  pub one_counts : (suite_faults new ≡ suite_faults old) ⊎ (signer_faults after ≡ signer_faults before)

-- nothing is said of a run that is done, and of another the line of its status
abbrev pub SaysEnd : {S : Type 0} → (S → Type 0) → (S → List ℕ) → (S → ℕ) → Status → S → S → Type 0
SaysEnd tells written faults statuses.Done old new = new ≡ old
SaysEnd tells written faults status old new = Says tells written faults (report status) old new
