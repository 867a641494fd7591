-- An agent whose state is bytes.
use Rattle.std.specs.Prelude.{◌≡◌, ◌==◌, ◌⊎◌, List, ℕ, Option, None, Some, Result, Err, IfOk, IfErr}
use Rattle.std.specs.Prelude.{if◌then◌else◌}
use Rattle.std.specs.Option.{ok_or}
use Rattle.picky_wire_base.specs.Outcome.{and_then, map_err}
use Rattle.picky_agent_state.specs.Request.{request_of}
use Rattle.picky_agent_bytes.specs.Bare.{bare_request, public_add}
use Rattle.picky_agent_bytes.specs.Call.{AnswersNext, AnswersQuestion, AnswersReply, IsNextTooLong, IsQuestionTooLong, kept_for, kept_to_reply}
use Rattle.picky_agent_bytes.specs.Secret.{secret_part}
use Rattle.picky_agent_bytes.specs.declared.error.AgentCallError.{AgentCallError}
use Rattle.picky_agent_bytes.specs.declared.error.AgentCallError.TheVariants as agents
use Rattle.picky_agent_bytes.specs.declared.secret.AgentSecret.{AgentSecret}
use Rattle.picky_agent_bytes.specs.declared.secret.AgentSecret.TheVariants as secrets
use Rattle.picky_agent_bytes.specs.declared.secret.RsaPart.TheVariants as rsa
use Rattle.picky_agent_bytes.specs.declared.secret.EcPart.TheVariants as ec
use Rattle.picky_agent_bytes.specs.declared.secret.EdPart.TheVariants as ed
use Rattle.picky_agent_bytes.specs.declared.secret.SkPart.TheVariants as sk
use Rattle.picky_target.specs.declared.error.ConvertError.TheVariants as refusals
use Rattle.picky_c.specs.Answer.{Comes}
use Rattle.picky_c.specs.declared.answer.PickyAnswer.{PickyAnswer}
use Rattle.picky_c.specs.declared.error.PickyError.{PickyError}
use Rattle.picky_c.specs.declared.error.PickyError.TheVariants as errors

-- an agent's refusal as a call's
abbrev pub agent_refusal : AgentCallError → PickyError
agent_refusal agents.NoMessage = errors.NoMessage
agent_refusal agents.MessageTooLong = errors.MessageTooLong
agent_refusal agents.NotAdd = errors.NotAdd
agent_refusal agents.NoSuchPart = errors.NoSuchPart
agent_refusal (agents.State e) = errors.State e
agent_refusal agents.SignatureTooLong = errors.SignatureTooLong
agent_refusal agents.TooLong = errors.Refused refusals.TooLong
agent_refusal agents.NoMemory = errors.NoMemory

-- ---- the calls over a state

-- what the agent's call comes to is handed out; this holds of its bytes, and this of its refusal
pub record AnswersAgent (IsAnswer : List ℕ → Type 0) (IsCause : AgentCallError → Type 0) (answer : PickyAnswer)
    (old new : List ℕ) : Type 0 where
  pub outcome : Result (List ℕ) AgentCallError
  pub handed : Comes (map_err agent_refusal outcome) answer old new
  pub ok : IfOk outcome IsAnswer
  pub err : IfErr outcome IsCause

-- why there is no question, no reply, and no next state: want of memory; this call's own reason, which of a reply comes first; or no
-- agent is in this state, or the message is none
abbrev pub IsQuestionCause : (state message : List ℕ) → AgentCallError → Type 0
IsQuestionCause state message e =
    (e ≡ agents.NoMemory) ⊎ ((e ≡ agents.TooLong) × IsQuestionTooLong state message) ⊎ (kept_for state message ≡ Err e)

abbrev pub IsReplyCause : (state message signature : List ℕ) → AgentCallError → Type 0
IsReplyCause state message signature e = (e ≡ agents.NoMemory) ⊎ (kept_to_reply state message signature ≡ Err e)

abbrev pub IsNextCause : (state message : List ℕ) → AgentCallError → Type 0
IsNextCause state message e =
    (e ≡ agents.NoMemory) ⊎ ((e ≡ agents.TooLong) × IsNextTooLong state message) ⊎ (kept_for state message ≡ Err e)

abbrev pub AnswersQuestionCall : (state message : List ℕ) → PickyAnswer → (old new : List ℕ) → Type 0
AnswersQuestionCall state message = AnswersAgent (AnswersQuestion state message) (IsQuestionCause state message)

abbrev pub AnswersReplyCall : (state message signature : List ℕ) → PickyAnswer → (old new : List ℕ) → Type 0
AnswersReplyCall state message signature = AnswersAgent (AnswersReply state message signature) (IsReplyCause state message signature)

abbrev pub AnswersNextCall : (state message : List ℕ) → PickyAnswer → (old new : List ℕ) → Type 0
AnswersNextCall state message = AnswersAgent (AnswersNext state message) (IsNextCause state message)

-- ---- a message that adds an identity

-- the message that adds it without its secrets, or the first reason why there is none
abbrev pub public_add_in : (message : List ℕ) → Result (List ℕ) PickyError
public_add_in message = map_err agent_refusal (public_add message)

-- it asks for what the message asks for, without the secrets
abbrev pub IsPublicAdd : (message bytes : List ℕ) → Type 0
IsPublicAdd message bytes = request_of bytes ≡ bare_request (request_of message)

-- the parts of the identity, by number
abbrev pub secret_numbered : ℕ → Option AgentSecret
secret_numbered number =
    if number == 1 then Some secrets.KeyType
    else if number == 2 then Some secrets.Comment
    else if number == 3 then Some (secrets.Rsa rsa.N)
    else if number == 4 then Some (secrets.Rsa rsa.E)
    else if number == 5 then Some (secrets.Rsa rsa.D)
    else if number == 6 then Some (secrets.Rsa rsa.Iqmp)
    else if number == 7 then Some (secrets.Rsa rsa.P)
    else if number == 8 then Some (secrets.Rsa rsa.Q)
    else if number == 9 then Some (secrets.Ec ec.Curve)
    else if number == 10 then Some (secrets.Ec ec.Point)
    else if number == 11 then Some (secrets.Ec ec.Secret)
    else if number == 12 then Some (secrets.Ed ed.Public)
    else if number == 13 then Some (secrets.Ed ed.Secret)
    else if number == 14 then Some (secrets.Sk sk.Public)
    else if number == 15 then Some (secrets.Sk sk.Application)
    else if number == 16 then Some (secrets.Sk sk.Flags)
    else if number == 17 then Some (secrets.Sk sk.Handle)
    else None

-- its part with a number, or the first reason why there is none
abbrev pub secret_in : (message : List ℕ) → (part : ℕ) → Result (List ℕ) PickyError
secret_in message part =
    and_then (ok_or (secret_numbered part) errors.NoSuchPart) (λ part. map_err agent_refusal (secret_part message part))
