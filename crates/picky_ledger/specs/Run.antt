-- A run: what it writes for the bytes of its source, and how it ends.
use Rattle.std.specs.Prelude.{◌≡◌, ◌<◌, ◌≤◌, ◌^◌, ◌*◌, ◌++◌, ◌==◌, ℕ, List, length, filter}
use Rattle.std.specs.Prelude.{nat_lt, not, Option, Some, Result, Ok, Err, if◌then◌else◌}
use Rattle.std.specs.Option.{ok_or}
use Rattle.picky_wire_base.specs.Outcome.{and_then, map_err}
use Rattle.picky_text.specs.Lines.{lines}
use Rattle.picky_wire.specs.Count.{Rose}
use Rattle.picky_suite.specs.Signs.{SignRelation}
use Rattle.picky_keys.specs.declared.key.SshPublicKey.{SshPublicKey}
use Rattle.picky_keys.specs.LineRefusal.{line_meaning}
pub use Rattle.picky_input.specs.Extent.{LeavesDevice, ReadsInput, WritesLast}
use Rattle.picky_input.specs.Extent.{Anywhere, Extent, PastLimit, ToEnd, ToFault, WritesPrefix}
use Rattle.picky_input.specs.SourceText.{source_text_of}
use Rattle.picky_input.specs.declared.source_text.SourceError.{SourceError}
use Rattle.picky_input.specs.declared.source_text.SourceError.TheVariants as source
use Rattle.picky_issuing.specs.Parts.{cut, mark_lf}
use Rattle.picky_issuing.specs.Steps.{some_then}
use Rattle.picky_ledger.specs.declared.ledger.LedgerTextError.{LedgerTextError}
use Rattle.picky_ledger.specs.declared.ledger.LedgerTextError.TheVariants as texts
use Rattle.picky_ledger.specs.declared.reply.Reply.{Reply}
use Rattle.picky_ledger.specs.declared.status.LedgerStatus.{LedgerStatus}
use Rattle.picky_ledger.specs.declared.status.LedgerStatus.TheVariants as statuses
use Rattle.picky_ledger.specs.LedgerText.{ledger_text, read}
use Rattle.picky_ledger.specs.Replies.{replies_text}
use Rattle.picky_ledger.specs.Runs.{FailsAt, IsAfter, NoneSigns, Runs, nonce_len}
use Rattle.picky_ledger.specs.State.{State}

-- ---- what the bytes of a source say

-- the parts before the first two lines `%%`, and what follows these
pub record Parts : Type 0 where
  pub ledger : List ℕ
  pub issuer : List ℕ
  pub requests : List ℕ

abbrev pub parts_in : (text : List ℕ) → Option Parts
parts_in text =
    some_then (cut text) (λ first. some_then (cut first.1) (λ second.
    Some (record { ledger = first.0; issuer = second.0; requests = second.1 })))

-- the lines that aren't empty
abbrev pub filled_lines : List (List ℕ) → List (List ℕ)
filled_lines all = filter (λ line. not (length line == 0)) all

abbrev pub requests_in : (part : List ℕ) → List (List ℕ)
requests_in part = filled_lines (lines part)

-- what is asked for: a ledger, who issues, and the lines of requests
pub record LedgerAsked : Type 0 where
  pub ledger : State
  pub issuer : SshPublicKey
  pub requests : List (List ℕ)

abbrev pub source_status : SourceError → LedgerStatus
source_status source.ReadFault = statuses.ReadFault
source_status source.InputTooLong = statuses.InputTooLong
source_status source.InputNotUtf8 = statuses.InputNotUtf8
source_status source.NoMemory = statuses.NoMemory

-- a source is no longer than its limit, and so its ledger's text isn't too long
abbrev pub text_status : LedgerTextError → LedgerStatus
text_status (texts.BadLine line) = statuses.BadLedger line
text_status texts.TooLong = statuses.TooLong
text_status texts.NoMemory = statuses.NoMemory

-- there are enough fresh bytes for the requests
abbrev pub if_fresh : (fresh : List ℕ) → LedgerAsked → Result LedgerAsked LedgerStatus
if_fresh fresh a =
    if nat_lt (length fresh) (nonce_len * length a.requests) then Err statuses.FreshTooShort else Ok a

abbrev pub of_parts : (fresh : List ℕ) → Parts → Result LedgerAsked LedgerStatus
of_parts fresh p =
    and_then (map_err text_status (read p.ledger)) (λ l.
    and_then (map_err statuses.BadIssuer (line_meaning p.issuer)) (λ issuer.
    if_fresh fresh (record { ledger = l; issuer = issuer; requests = requests_in p.requests })))

abbrev pub of_text : (fresh text : List ℕ) → Result LedgerAsked LedgerStatus
of_text fresh text = and_then (ok_or (parts_in text) statuses.BadInput) (of_parts fresh)

-- what the bytes ask for, or the status that says why they ask for nothing
unfoldable pub asked : (fresh input : List ℕ) → Result LedgerAsked LedgerStatus
asked fresh input = and_then (map_err source_status (source_text_of input)) (of_text fresh)

-- ---- what is written

-- the ledger's text, the mark's line, and a line for each request
abbrev pub output : State → (lines : List (List ℕ)) → List Reply → List ℕ
output l lines replies = ledger_text l ++ (mark_lf ++ replies_text lines replies)

-- the requests were answered, each in its turn, and the text says the new ledger, whose text a length of the wire can count, and the
-- replies
pub record IsAnswerTo (signs : SignRelation) (fresh input text : List ℕ) : Type 0 where
  pub new : State
  pub replies : List Reply
  pub given : LedgerAsked
  pub asks : asked fresh input ≡ Ok given
  pub runs : Runs signs given.issuer.inner_key given.ledger fresh given.requests new replies
  pub leaves : IsAfter signs given.issuer.inner_key given.ledger given.requests new replies
  pub short : length (ledger_text new) < 2 ^ 32
  pub is : text ≡ output new given.requests replies

-- the new ledger's text is longer
pub record IsLedgerTooLong (signs : SignRelation) (fresh input : List ℕ) : Type 0 where
  pub new : State
  pub replies : List Reply
  pub given : LedgerAsked
  pub asks : asked fresh input ≡ Ok given
  pub runs : Runs signs given.issuer.inner_key given.ledger fresh given.requests new replies
  pub long : 2 ^ 32 ≤ length (ledger_text new)

-- the device failed, which was asked for a request of the source's
pub record IsOutsideFault (signs : SignRelation) (fresh input : List ℕ) (rose : Type 0) : Type 0 where
  pub given : LedgerAsked
  pub asks : asked fresh input ≡ Ok given
  pub fails : FailsAt signs given.issuer.inner_key given.ledger fresh given.requests rose

-- no request of the source is to be signed
abbrev pub AsksNothing : (fresh input : List ℕ) → Type 0
AsksNothing fresh input =
    (given : LedgerAsked) → asked fresh input ≡ Ok given → NoneSigns given.issuer.inner_key given.ledger fresh given.requests

-- the whole text was written after what there was
pub record WritesAnswer (signs : SignRelation) (fresh input before after : List ℕ) : Type 0 where
  pub text : List ℕ
  pub gives : IsAnswerTo signs fresh input text
  pub written : after ≡ before ++ text

-- ---- how a run ends

-- how far the source was read
abbrev pub extent_of : LedgerStatus → Extent
extent_of statuses.ReadFault = ToFault
extent_of statuses.InputTooLong = PastLimit
extent_of statuses.NoMemory = Anywhere
extent_of status = ToEnd

-- why there is no text to write: memory ran out, a device failed, the new ledger's text is too long, or the bytes ask for nothing
abbrev pub Stops : SignRelation → (fresh input : List ℕ) → (read_rose signer_rose : Type 0) → LedgerStatus → Type 0
Stops signs fresh input read_rose signer_rose statuses.Done = ⊥
Stops signs fresh input read_rose signer_rose statuses.WriteFault = ⊥
Stops signs fresh input read_rose signer_rose statuses.NoMemory = Unit {0}
Stops signs fresh input read_rose signer_rose statuses.ReadFault = read_rose
Stops signs fresh input read_rose signer_rose statuses.OutsideFault = IsOutsideFault signs fresh input signer_rose
Stops signs fresh input read_rose signer_rose statuses.TooLong = IsLedgerTooLong signs fresh input
Stops signs fresh input read_rose signer_rose status = asked fresh input ≡ Err status

-- what was written, and the counts of faults, at one moment
pub record Moment : Type 0 where
  pub written : List ℕ
  pub source_faults : ℕ
  pub sink_faults : ℕ
  pub signer_faults : ℕ

abbrev pub moment : (written : List ℕ) → (source_faults sink_faults signer_faults : ℕ) → Moment
moment written source_faults sink_faults signer_faults = record {
  written = written;
  source_faults = source_faults;
  sink_faults = sink_faults;
  signer_faults = signer_faults;
}

-- what a status says of a run over these bytes: that the whole text was written, to a sink that tells; that a prefix of it was before
-- a fault; or why there is no text
abbrev pub Ends : SignRelation → (fresh input : List ℕ) → (tells : Type 0) → (old new : Moment) → LedgerStatus → Type 0
Ends signs fresh input tells old new statuses.Done =
    (text : List ℕ) × IsAnswerTo signs fresh input text × (tells → new.written ≡ old.written ++ text)
Ends signs fresh input tells old new statuses.WriteFault =
    (text : List ℕ) × IsAnswerTo signs fresh input text × (tells → WritesPrefix text old.written new.written)
    × Rose old.sink_faults new.sink_faults
Ends signs fresh input tells old new status =
    Stops signs fresh input (Rose old.source_faults new.source_faults) (Rose old.signer_faults new.signer_faults) status

-- how the program ends: 0 for Done
abbrev pub exit_code : LedgerStatus → ℕ
exit_code statuses.Done = 0
exit_code statuses.BadInput = 1
exit_code (statuses.BadLedger line) = 2
exit_code (statuses.BadIssuer e) = 3
exit_code statuses.FreshTooShort = 4
exit_code statuses.TooLong = 5
exit_code statuses.ReadFault = 6
exit_code statuses.WriteFault = 7
exit_code statuses.OutsideFault = 8
exit_code statuses.NoMemory = 9
exit_code statuses.InputTooLong = 10
exit_code statuses.InputNotUtf8 = 11
