-- Words of this crate's private contracts: what is answered.
use Rattle.std.specs.Prelude.{◌≡◌, ◌⊎◌, ℕ, List, string_bytes, Result, Ok, Err}
use Rattle.picky_input.specs.Extent.{Extent, ToEnd}
use Rattle.picky_policy.specs.Command.{Asked}
use Rattle.picky_policy.specs.Run.{IsAnswerTo, IsAnswer, IsFaultOf, IsOutsideFault, extent_of, file_part, offered}
use Rattle.picky_policy.specs.Run.{offered_in}
use Rattle.picky_policy.specs.Verifies.{VerifyRelation}
use Rattle.picky_policy.specs.declared.answer.Answer.{Answer}
use Rattle.picky_policy.specs.declared.decision.Decision.{Decision}
use Rattle.picky_policy.specs.declared.decision.Decision.TheVariants as decisions
use Rattle.picky_policy.specs.declared.offer.Offer.{Offer}
use Rattle.picky_policy.specs.declared.status.PolicyStatus.{PolicyStatus}
use Rattle.picky_policy.specs.declared.status.PolicyStatus.TheVariants as statuses

-- what is answered shows a status and the bytes of a text
abbrev pub answer_shown : Answer → PolicyStatus × List ℕ
answer_shown answer = (answer.status, string_bytes answer.text)

-- how a run ends that wrote a decision
abbrev pub decision_status : Decision → PolicyStatus
decision_status (decisions.Granted grant) = statuses.Granted
decision_status (decisions.Denied why) = statuses.Denied

-- what is answered for an offer over the authorized keys of a file; or want of memory, or the verifier's fault
abbrev pub AnswersOffer : VerifyRelation → Asked → (file : List ℕ) → Offer → (rose : Type 0)
    → Result (PolicyStatus × List ℕ) PolicyStatus → Type 0
AnswersOffer verifies asked file offer rose (Ok said) = IsAnswer verifies asked file offer said.0 said.1
AnswersOffer verifies asked file offer rose (Err status) =
    (status ≡ statuses.NoMemory) ⊎ ((status ≡ statuses.OutsideFault) × IsFaultOf asked file offer rose)

-- the same for a text, which may have no offer
abbrev pub AnswersText : VerifyRelation → Asked → (text : List ℕ) → (rose : Type 0)
    → Result (PolicyStatus × List ℕ) PolicyStatus → Type 0
AnswersText verifies asked text rose (Ok said) =
    (offer : Offer) × (offered_in text ≡ Ok offer) × IsAnswer verifies asked (file_part text) offer said.0 said.1
AnswersText verifies asked text rose (Err status) =
    (status ≡ statuses.NoMemory)
    ⊎ ((offer : Offer) × (status ≡ statuses.OutsideFault) × (offered_in text ≡ Ok offer)
    × IsFaultOf asked (file_part text) offer rose)
    ⊎ (offered_in text ≡ Err status)

-- the same for the bytes of a source, which may fail
abbrev pub Comes : VerifyRelation → Asked → (input : List ℕ) (read verify : Type 0)
    → Result (PolicyStatus × List ℕ) PolicyStatus → Type 0
Comes verifies asked input read verify (Ok said) = IsAnswerTo verifies asked input said.0 said.1
Comes verifies asked input read verify (Err status) =
    (status ≡ statuses.NoMemory) ⊎ ((status ≡ statuses.ReadFault) × read)
    ⊎ ((status ≡ statuses.OutsideFault) × IsOutsideFault asked input verify)
    ⊎ (offered input ≡ Err status)

-- how far the source was read, by what is answered
abbrev pub extent_for : {A : Type 0} → Result A PolicyStatus → Extent
extent_for (Ok said) = ToEnd
extent_for (Err status) = extent_of status
