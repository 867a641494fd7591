-- What a call of an agent comes to whose state is bytes.
use Rattle.std.specs.Prelude.{◌≡◌, ◌≤◌, ◌<◌, ◌^◌, ◌⊎◌, ℕ, List, [], ◌∷◌, length, nat_lt, if◌then◌else◌, None, Some, Result, Ok, Err}
use Rattle.std.specs.Int.{w32, to_be_bytes}
use Rattle.std.specs.List.{concat}
use Rattle.picky_wire_base.specs.Outcome.{map_err}
use Rattle.picky_wire_base.specs.Wire.{string_of}
use Rattle.picky_suite.specs.Signs.{HandedSignerState, SignRelation, SignsAsHanded}
use Rattle.picky_keys.specs.declared.key.SshBasePublicKey.{SshBasePublicKey}
use Rattle.picky_keys.specs.Blob.{blob_of}
use Rattle.picky_keys.specs.Key.{public_key_of}
use Rattle.picky_keys.specs.declared.algorithm.SignatureAlgorithm.{SignatureAlgorithm}
use Rattle.picky_cert_parts.specs.declared.signature_format.SshSignatureFormat.{SshSignatureFormat}
use Rattle.picky_cert_parts.specs.CertNames.{format_name}
use Rattle.picky_agent_state.specs.declared.question.Question.{Question}
use Rattle.picky_agent_state.specs.Keep.{keep_limit}
use Rattle.picky_agent_state.specs.Kept.{Kept, Machine, machine}
use Rattle.picky_agent_state.specs.Message.{message_limit}
use Rattle.picky_agent_state.specs.Question.{IsQuestion}
use Rattle.picky_agent_state.specs.Request.{Request, Sign, SignRequest, request_of}
use Rattle.picky_agent_state.specs.Step.{AsksSigner, CanSign, Step}
use Rattle.picky_agent_bytes.specs.AlgorithmName.{algorithm_name}
use Rattle.picky_agent_bytes.specs.State.{state_of, state_read}
use Rattle.picky_agent_bytes.specs.declared.error.AgentBytesError.{AgentBytesError}
use Rattle.picky_agent_bytes.specs.declared.error.AgentBytesError.TheVariants as states
use Rattle.picky_agent_bytes.specs.declared.error.AgentCallError.{AgentCallError}
use Rattle.picky_agent_bytes.specs.declared.error.AgentCallError.TheVariants as errors

-- ---- what is kept when a message comes

-- want of memory is the call's own
abbrev pub state_refusal : AgentBytesError → AgentCallError
state_refusal states.TooLong = errors.State states.TooLong
state_refusal states.Short = errors.State states.Short
state_refusal states.NotKept = errors.State states.NotKept
state_refusal states.TooMany = errors.State states.TooMany
state_refusal states.NotCanonical = errors.State states.NotCanonical
state_refusal states.NoMemory = errors.NoMemory

-- a message has 1 to 262,144 bytes
abbrev pub if_message : {A : Type 0} → (message : List ℕ) → Result A AgentCallError → Result A AgentCallError
if_message message next =
    if nat_lt (length message) 1 then Err errors.NoMessage
    else if nat_lt message_limit (length message) then Err errors.MessageTooLong
    else next

-- what is kept, or the first reason why nothing can be answered
abbrev pub kept_for : (state message : List ℕ) → Result Kept AgentCallError
kept_for state message = if_message message (map_err state_refusal (state_read state))

-- the same where a signature is handed in, of fewer than 2^32 bytes
abbrev pub kept_to_reply : (state message signature : List ℕ) → Result Kept AgentCallError
kept_to_reply state message signature =
    if nat_lt (length signature) (2 ^ 32) then kept_for state message else Err errors.SignatureTooLong

-- ---- what has to be signed

-- uint32 place of the identity
-- string public key's blob
-- string algorithm's name
-- string name of the signature's format
-- string message
unfoldable pub question_of : SshBasePublicKey → (place : ℕ) → SignatureAlgorithm → SshSignatureFormat → (message : List ℕ) → List ℕ
question_of key place algorithm format message = concat (
    to_be_bytes w32 place ∷ string_of (blob_of key) ∷ string_of (algorithm_name algorithm) ∷ string_of (format_name format)
    ∷ string_of message ∷ []
    )

-- the bytes are the question that the request asks
pub record IsAskedBy (kept : Kept) (asked : SignRequest) (bytes : List ℕ) : Type 0 where
  pub question : Question
  pub asks : IsQuestion kept asked question
  pub are : bytes ≡ question_of asked.key question.place question.algorithm question.format question.message.now

abbrev pub IsAskedOn : Kept → Request → (bytes : List ℕ) → Type 0
IsAskedOn kept (Sign asked) bytes = IsAskedBy kept asked bytes
IsAskedOn kept request bytes = ⊥

-- or there are none, and nothing has to be signed
abbrev pub IsAsked : Kept → Request → (bytes : List ℕ) → Type 0
IsAsked kept request bytes = IsAskedOn kept request bytes ⊎ ((AsksSigner kept request → ⊥) × (bytes ≡ []))

-- ---- a step by a signature that was handed in

-- no bytes mean that the device failed
abbrev pub handed : (signature : List ℕ) → HandedSignerState
handed [] = record { signature = None; faults = 0 }
handed (b ∷ bytes) = record { signature = Some (b ∷ bytes); faults = 0 }

-- the machine takes the message, where that signature alone is good
abbrev pub HandedStep : (signature : List ℕ) → (old : Kept) → (message reply : List ℕ) → (new : Machine) → Type 0
HandedStep signature old message reply new = Step (SignsAsHanded (handed signature)) (machine old 0) message reply new

-- the reply is that of such a step; a signature that was handed in doesn't fail
pub record IsReply (old : Kept) (message signature reply : List ℕ) : Type 0 where
  pub new : Machine
  pub step : HandedStep signature old message reply new
  pub calm : 0 < length signature → new.faults ≡ 0

-- and this is kept behind one
abbrev pub IsNext : (old : Kept) → (message : List ℕ) → (new : Kept) → Type 0
IsNext old message new = (reply : List ℕ) × (faults : ℕ) × HandedStep [] old message reply (machine new faults)

-- the signature, where there is one, is good for what has to be signed
abbrev pub IsGood : SignRelation → (old : Kept) → (message signature : List ℕ) → Type 0
IsGood signs old message signature = (asked : SignRequest) → request_of message ≡ Sign asked → (can : CanSign old asked)
    → 0 < length signature → signs (public_key_of asked.key) can.way.0 asked.message signature

-- ---- what the calls answer

pub record AnswersQuestion (state message bytes : List ℕ) : Type 0 where
  pub kept : Kept
  pub holds : kept_for state message ≡ Ok kept
  pub asked : IsAsked kept (request_of message) bytes

pub record AnswersReply (state message signature reply : List ℕ) : Type 0 where
  pub kept : Kept
  pub holds : kept_to_reply state message signature ≡ Ok kept
  pub replies : IsReply kept message signature reply

pub record AnswersNext (state message bytes : List ℕ) : Type 0 where
  pub kept : Kept
  pub holds : kept_for state message ≡ Ok kept
  pub next : Kept
  pub is_next : IsNext kept message next
  pub spelled : state_of next ≡ bytes
  pub read : state_read bytes ≡ Ok next

-- the question would have 2^32 bytes or more
pub record IsQuestionTooLong (state message : List ℕ) : Type 0 where
  pub kept : Kept
  pub holds : kept_for state message ≡ Ok kept
  pub bytes : List ℕ
  pub asked : IsAskedOn kept (request_of message) bytes
  pub long : 2 ^ 32 ≤ length bytes

-- what is kept next has more than 2^30 bytes
pub record IsNextTooLong (state message : List ℕ) : Type 0 where
  pub kept : Kept
  pub holds : kept_for state message ≡ Ok kept
  pub next : Kept
  pub is_next : IsNext kept message next
  pub long : keep_limit < length (state_of next)
