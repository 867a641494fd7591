-- The laws of questions.
use Rattle.std.proofs.Common.{◌≡◌, ◌⊎◌, ℕ, Bool, List, Some, MatchBool, inl, inr, refl, subst, sym}
use Rattle.std.specs.Prelude.{Option}
use Rattle.picky_keys.specs.Key.{public_key_of}
use Rattle.picky_wire.specs.Count.{Rose}
use Rattle.picky_suite.specs.Signs.{SignRelation}
use Rattle.picky_agent_state.specs.declared.question.Question.{Question}
use Rattle.picky_agent_state.specs.Held.{HasNone}
use Rattle.picky_agent_state.specs.Kept.{Kept, machine}
use Rattle.picky_agent_state.specs.Question.{IsQuestion}
use Rattle.picky_agent_state.specs.Reply.{failure, fitted, signed_reply}
use Rattle.picky_agent_state.specs.Request.{Request, Sign, SignRequest, request_of}
use Rattle.picky_agent_state.specs.Rows.{Fails}
use Rattle.picky_agent_state.specs.Signing.{SigningWay}
use Rattle.picky_agent_state.specs.Step.{Asks, AsksNone, AsksToSign, AsksWith, CanSign, Step, StepOn, Still}
use Rattle.picky_agent_state.proofs.FailureLaws.{has_one}

-- where no identity has the key, nothing is to be signed
pub none_signs : (kept : Kept) (asked : SignRequest) → HasNone asked.key kept.identities → CanSign kept asked → ⊥
none_signs kept asked none can = has_one asked.key kept.identities can.place can.is_at none

asks_to_sign : (signs : SignRelation) (kept : Kept) (before after : ℕ) (asked : SignRequest) (question : Question) (reply : List ℕ)
    → IsQuestion kept asked question
    → Asks signs (machine kept before) asked (Some (question.algorithm, question.format)) reply (machine kept after)
    → AsksToSign signs (machine kept before) asked reply (machine kept after)
asks_to_sign signs kept before after asked question reply is asks =
    subst
    (λ (b : Bool). MatchBool b (Still (machine kept before) Fails reply (machine kept after))
    (AsksWith signs (machine kept before) asked reply (machine kept after) ⊎ AsksNone (machine kept before) asked reply (machine kept after)))
    (sym is.unlocked)
    (inl (record {
      place = question.place;
      is_at = is.is_at;
      asks = subst (λ (w : Option SigningWay). Asks signs (machine kept before) asked w reply (machine kept after)) (sym is.is_way) asks;
    }))

pub signed_step : (signs : SignRelation) (kept : Kept) (faults : ℕ) (message signature : List ℕ) (asked : SignRequest)
    (question : Question) → request_of message ≡ Sign asked → IsQuestion kept asked question
    → signs (public_key_of asked.key) question.algorithm question.message.now signature
    → Step signs (machine kept faults) message (fitted (signed_reply question.format signature)) (machine kept faults)
unfolding Step
signed_step signs kept faults message signature asked question request is good =
    subst
    (λ (r : Request). StepOn signs (machine kept faults) r (fitted (signed_reply question.format signature)) (machine kept faults))
    (sym request)
    (asks_to_sign signs kept faults faults asked question (fitted (signed_reply question.format signature)) is (inl (record {
      signature = signature;
      good = subst (λ (m : List ℕ). signs (public_key_of asked.key) question.algorithm m signature) is.is_message good;
      replies = refl;
      unchanged = refl;
    })))

pub failed_step : (signs : SignRelation) (kept : Kept) (before after : ℕ) (message : List ℕ) (asked : SignRequest) (question : Question)
    → request_of message ≡ Sign asked → IsQuestion kept asked question → Rose before after
    → Step signs (machine kept before) message failure (machine kept after)
unfolding Step
failed_step signs kept before after message asked question request is rose =
    subst (λ (r : Request). StepOn signs (machine kept before) r failure (machine kept after)) (sym request)
    (asks_to_sign signs kept before after asked question failure is (inr (record { replies = refl; kept = refl; rose = rose })))
