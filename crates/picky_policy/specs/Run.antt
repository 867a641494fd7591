-- A run: what it writes for the bytes of its source, and how it ends.
use Rattle.std.specs.Prelude.{◌≡◌, ◌++◌, ℕ, Bool, true, false, List, []}
use Rattle.std.specs.Prelude.{Option, Some, None, Result, Ok, Err}
use Rattle.picky_wire_base.specs.Outcome.{and_then, map_err}
use Rattle.picky_wire.specs.declared.timestamp.Timestamp.{Timestamp}
use Rattle.picky_input.specs.Extent.{Extent, Anywhere, PastLimit, ToEnd, ToFault, Untouched, WritesPrefix}
use Rattle.picky_input.specs.SourceText.{source_text_of}
use Rattle.picky_input.specs.declared.source_text.SourceError.{SourceError}
use Rattle.picky_input.specs.declared.source_text.SourceError.TheVariants as source
use Rattle.picky_issuing.specs.Parts.{issuer_text_part, key_part}
use Rattle.picky_authorized.specs.Entries.{entries_in}
use Rattle.picky_key_text.specs.declared.error.ReadError.{ReadError}
use Rattle.picky_policy.specs.Command.{Asked, Deciding, Printing}
use Rattle.picky_policy.specs.Decided.{IsDecision, verifier_asks}
use Rattle.picky_policy.specs.Offer.{message_of, offer_in}
use Rattle.picky_policy.specs.Printed.{decision_text, message_text}
use Rattle.picky_policy.specs.Verifies.{VerifyRelation}
use Rattle.picky_policy.specs.declared.decision.Decision.{Decision}
use Rattle.picky_policy.specs.declared.decision.Decision.TheVariants as decisions
use Rattle.picky_policy.specs.declared.decision.Denial.{Denial}
use Rattle.picky_policy.specs.declared.decision.Grant.{Grant}
use Rattle.picky_policy.specs.declared.offer.Offer.{Offer}
use Rattle.picky_policy.specs.declared.status.PolicyStatus.{PolicyStatus}
use Rattle.picky_policy.specs.declared.status.PolicyStatus.TheVariants as statuses

-- ---- what the bytes of a source say

-- the authorized keys stand before the first line `%%`; without that line there are none
abbrev pub file_or_none : Option (List ℕ) → List ℕ
file_or_none None = []
file_or_none (Some file) = file

abbrev pub file_part : (text : List ℕ) → List ℕ
file_part text = file_or_none (issuer_text_part text)

-- the offer stands after it, and without it is all
abbrev pub offer_part : (text : List ℕ) → List ℕ
offer_part text = key_part text

abbrev pub source_status : SourceError → PolicyStatus
source_status source.ReadFault = statuses.ReadFault
source_status source.InputTooLong = statuses.InputTooLong
source_status source.InputNotUtf8 = statuses.InputNotUtf8
source_status source.NoMemory = statuses.NoMemory

abbrev pub bad_offer : ReadError → PolicyStatus
bad_offer e = statuses.BadOffer

-- the offer of a text, and that of a source's bytes, or the status that says why there is none
abbrev pub offered_in : (text : List ℕ) → Result Offer PolicyStatus
offered_in text = map_err bad_offer (offer_in (offer_part text))

unfoldable pub offered : (input : List ℕ) → Result Offer PolicyStatus
offered input = and_then (map_err source_status (source_text_of input)) offered_in

-- ---- what is decided of them

-- the decision on the offer, over the authorized keys of a file
abbrev pub IsDecided : VerifyRelation → (file : List ℕ) → Offer → (user : List ℕ) → Timestamp → Decision → Type 0
IsDecided verifies file offer user moment decision = IsDecision verifies (entries_in file) offer user moment decision

-- the verifier is asked for it: for a decision on a certificate, where no rule before the signature's fails
abbrev pub is_asked : Asked → (file : List ℕ) → Offer → Bool
is_asked (Deciding user moment) file offer = verifier_asks (entries_in file) offer user moment
is_asked Printing file offer = false

abbrev pub asks_with : Asked → (text : List ℕ) → Result Offer PolicyStatus → Bool
asks_with asked text (Ok offer) = is_asked asked (file_part text) offer
asks_with asked text (Err status) = false

-- so it is for the bytes of a source
abbrev pub asks_of : Asked → (input : List ℕ) → Bool
asks_of asked input = asks_with asked input (offered input)

-- the verifier failed, which was asked
abbrev pub IsFaultOf : Asked → (file : List ℕ) → Offer → (rose : Type 0) → Type 0
IsFaultOf (Deciding user moment) file offer rose = (verifier_asks (entries_in file) offer user moment ≡ true) × rose
IsFaultOf Printing file offer rose = ⊥

pub record IsOutsideFault (asked : Asked) (input : List ℕ) (rose : Type 0) : Type 0 where
  pub offer : Offer
  pub offered : offered input ≡ Ok offer
  pub fault : IsFaultOf asked (file_part input) offer rose

-- ---- what is written

-- a decision was asked for, and its status and its lines are these
abbrev pub IsDecisionOf : Asked → (decides : (user : List ℕ) → Timestamp → Decision → Type 0) → Decision → (text : List ℕ)
    → Type 0
IsDecisionOf (Deciding user moment) decides decision text = decides user moment decision × (text ≡ decision_text decision)
IsDecisionOf Printing decides decision text = ⊥

-- what is signed was asked for, and its line is this
abbrev pub IsMessageLine : Asked → Offer → (text : List ℕ) → Type 0
IsMessageLine (Deciding user moment) offer text = ⊥
IsMessageLine Printing offer text = text ≡ message_text (message_of offer)

-- what is asked for is answered with this status and text
abbrev pub IsAnswer : VerifyRelation → Asked → (file : List ℕ) → Offer → PolicyStatus → (text : List ℕ) → Type 0
IsAnswer verifies asked file offer statuses.Granted text =
    (grant : Grant) × IsDecisionOf asked (IsDecided verifies file offer) (decisions.Granted grant) text
IsAnswer verifies asked file offer statuses.Denied text =
    (why : Denial) × IsDecisionOf asked (IsDecided verifies file offer) (decisions.Denied why) text
IsAnswer verifies asked file offer statuses.Message text = IsMessageLine asked offer text
IsAnswer verifies asked file offer status text = ⊥

-- so for the offer of the source
pub record IsAnswerTo (verifies : VerifyRelation) (asked : Asked) (input : List ℕ) (status : PolicyStatus)
    (text : List ℕ) : Type 0 where
  pub offer : Offer
  pub offered : offered input ≡ Ok offer
  pub answer : IsAnswer verifies asked (file_part input) offer status text

-- the whole text was written after what there was
pub record WritesAnswer (verifies : VerifyRelation) (asked : Asked) (input : List ℕ) (status : PolicyStatus)
    (before after : List ℕ) : Type 0 where
  pub text : List ℕ
  pub gives : IsAnswerTo verifies asked input status text
  pub written : after ≡ before ++ text

-- ---- how a run ends

-- the whole answer was written
abbrev pub IsDone : PolicyStatus → Type 0
IsDone statuses.Granted = Unit {0}
IsDone statuses.Denied = Unit {0}
IsDone statuses.Message = Unit {0}
IsDone status = ⊥

-- how a run ends for the bytes of its source, by its status: they have no offer, and this is why; or a fault was counted, of the
-- source (read), of the verifier that was asked or of the sink (write); or there is an answer. Where the sink tells its bytes, the
-- answer was written whole or, with WriteFault, a prefix of it
abbrev pub Ends : VerifyRelation → Asked → (input : List ℕ) (read verify write tells : Type 0) (before after : List ℕ)
    → PolicyStatus → Type 0
Ends verifies asked input read verify write tells before after statuses.Usage = ⊥
Ends verifies asked input read verify write tells before after statuses.ReadFault = read
Ends verifies asked input read verify write tells before after statuses.InputTooLong = offered input ≡ Err statuses.InputTooLong
Ends verifies asked input read verify write tells before after statuses.InputNotUtf8 = offered input ≡ Err statuses.InputNotUtf8
Ends verifies asked input read verify write tells before after statuses.BadOffer = offered input ≡ Err statuses.BadOffer
Ends verifies asked input read verify write tells before after statuses.OutsideFault = IsOutsideFault asked input verify
Ends verifies asked input read verify write tells before after statuses.WriteFault =
    write × (status : PolicyStatus) × (text : List ℕ) × IsAnswerTo verifies asked input status text
    × (tells → WritesPrefix text before after)
Ends verifies asked input read verify write tells before after statuses.NoMemory = Unit {0}
Ends verifies asked input read verify write tells before after status =
    (text : List ℕ) × IsAnswerTo verifies asked input status text × (tells → after ≡ before ++ text)

-- ---- what is left

-- how far the source was read
abbrev pub extent_of : PolicyStatus → Extent
extent_of statuses.Usage = Untouched
extent_of statuses.ReadFault = ToFault
extent_of statuses.InputTooLong = PastLimit
extent_of statuses.NoMemory = Anywhere
extent_of status = ToEnd

-- the verifier isn't asked: the words ask for nothing, or for what is signed; or for a decision, and the source tells bytes for
-- which none is needed
abbrev pub IsSpared : Option Asked → (tells : Type 0) → (input : List ℕ) → Type 0
IsSpared None tells input = Unit {0}
IsSpared (Some Printing) tells input = Unit {0}
IsSpared (Some (Deciding user moment)) tells input = tells × (asks_of (Deciding user moment) input ≡ false)

-- ---- the program

-- how the program ends: 0 where the offer gets in, or where what is signed was written
abbrev pub exit_code : PolicyStatus → ℕ
exit_code statuses.Granted = 0
exit_code statuses.Message = 0
exit_code statuses.Denied = 1
exit_code statuses.Usage = 2
exit_code statuses.BadOffer = 3
exit_code statuses.ReadFault = 4
exit_code statuses.WriteFault = 5
exit_code statuses.OutsideFault = 6
exit_code statuses.NoMemory = 7
exit_code statuses.InputTooLong = 8
exit_code statuses.InputNotUtf8 = 9
