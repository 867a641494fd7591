-- The reply of an agent that signs only with leave.
use Rattle.std.proofs.Common.{◌≡◌, ◌⊎◌, ℕ, Bool, true, false, List, Some, None, Result, Ok, Err, MatchBool, inl, inr, refl, subst, sym}
use Rattle.std.specs.Prelude.{IfOk, IsTrue, Option}
use Rattle.picky.specs.AgentKept.{Kept, Machine, is_locked, machine}
use Rattle.picky.specs.AgentRequest.{Add, Identities, Lock, Remove, RemoveAll, Request, Sign, SignRequest, Unfit, Unlock, request_of}
use Rattle.picky.specs.AgentRows.{Fails}
use Rattle.picky.specs.Count.{count_one}
use Rattle.picky.specs.Question.{IsQuestion, IsQuestionOn}
use Rattle.picky.specs.Reply.{failure}
use Rattle.picky.specs.Signing.{SigningWay, way_for}
use Rattle.picky.specs.Signs.{SignRelation}
use Rattle.picky.specs.SshPublicKey.{kind_of}
use Rattle.picky.specs.Step.{Asks, AsksNone, AsksWith, Step, StepOn, Still}
use Rattle.picky.specs.declared.agent.Question.{Question}
use Rattle.picky_callers.specs.SignedReply.{FailsOrIsSigned}

-- ---- a signature in the reply is good

by_way : (signs : SignRelation) (old new : Machine) (asked : SignRequest) (way : Option SigningWay) (reply : List ℕ)
    → Asks signs old asked way reply new → FailsOrIsSigned signs asked reply
by_way signs old new asked (Some way) reply (inl signed) = inr (record {
  algorithm = way.0;
  format = way.1;
  signature = signed.signature;
  good = signed.good;
  replies = signed.replies;
})
by_way signs old new asked (Some way) reply (inr unsigned) = inl unsigned.replies
by_way signs old new asked None reply still = inl still.row_holds.0

by_lock : (signs : SignRelation) (old new : Machine) (asked : SignRequest) (reply : List ℕ) (locked : Bool)
    → MatchBool locked (Still old Fails reply new) (AsksWith signs old asked reply new ⊎ AsksNone old asked reply new)
    → FailsOrIsSigned signs asked reply
by_lock signs old new asked reply true still = inl still.row_holds.0
by_lock signs old new asked reply false (inl by_key) =
    by_way signs old new asked (way_for (kind_of asked.key) asked.flags) reply by_key.asks
by_lock signs old new asked reply false (inr none) = inl none.fails.row_holds.0

step_is_signed : (signs : SignRelation) (old new : Machine) (message reply : List ℕ) (asked : SignRequest)
    → request_of message ≡ Sign asked → Step signs old message reply new → FailsOrIsSigned signs asked reply
unfolding Step
step_is_signed signs old new message reply asked request step =
    by_lock signs old new asked reply (is_locked old.kept) (subst (λ (r : Request). StepOn signs old r reply new) request step)

pub answer_is_signed : {E : Type 0} (signs : SignRelation) (old new : Machine) (message : List ℕ) (asked : SignRequest)
    (result : Result (List ℕ) E) → request_of message ≡ Sign asked
    → IfOk result (λ reply. Step signs old message reply new) → IfOk result (FailsOrIsSigned signs asked)
answer_is_signed signs old new message asked (Ok reply) request step =
    step_is_signed signs old new message reply asked request step
answer_is_signed signs old new message asked (Err e) request step = tt

-- ---- the reply is the agent's

abbrev pub StepsTo : SignRelation → (old : Machine) → (message : List ℕ) → Kept → (may_sign : Bool) → (after : ℕ) → (reply : List ℕ) → Type 0
StepsTo signs old message kept may_sign after reply =
    (faults : ℕ) × (IsTrue may_sign → faults ≡ after) × Step signs old message reply (machine kept faults)

-- only what asks for a signature has a question
asks : (kept : Kept) (request : Request) (question : Question) → IsQuestionOn kept request question
    → (asked : SignRequest) × (request ≡ Sign asked) × IsQuestion kept asked question
asks kept (Sign asked) question is = (asked, refl, is)
asks kept Identities question is = absurd is
asks kept (Add added) question is = absurd is
asks kept (Remove key) question is = absurd is
asks kept RemoveAll question is = absurd is
asks kept (Lock pass) question is = absurd is
asks kept (Unlock pass) question is = absurd is
asks kept Unfit question is = absurd is

pub failure_steps : {E : Type 0} (signs : SignRelation) (kept : Kept) (before after : ℕ) (message : List ℕ) (question : Question)
    (may_sign : Bool) (result : Result (List ℕ) E) → may_sign ≡ false → IsQuestionOn kept (request_of message) question
    → ((asked : SignRequest) → request_of message ≡ Sign asked → IsQuestion kept asked question
    → Step signs (machine kept before) message failure (machine kept (count_one before)))
    → IfOk result (λ reply. reply ≡ failure) → IfOk result (StepsTo signs (machine kept before) message kept may_sign after)
failure_steps signs kept before after message question may_sign (Ok reply) without is law fails =
    let asked = asks kept (request_of message) question is in (
      count_one before,
      λ yes. absurd (cc (sym without, yes)),
      subst (λ (r : List ℕ). Step signs (machine kept before) message r (machine kept (count_one before))) (sym fails)
          (law asked.0 asked.1 asked.2),
    )
failure_steps signs kept before after message question may_sign (Err e) without is law fails = tt
