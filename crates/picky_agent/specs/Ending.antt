-- Where a stream ends: the messages that it begins with, and what stands behind them.
use Rattle.std.specs.Prelude.{◌≡◌, ◌++◌, ⊤, ℕ, List, [], flat_map}
use Rattle.std.specs.List.{AllByRecursion}
use Rattle.picky_wire_base.specs.Wire.{string_of}
use Rattle.picky_agent_state.specs.Message.{IsMessage}
use Rattle.picky_agent_state.specs.Request.{Request, Sign, request_of}
use Rattle.picky_agent.specs.declared.status.AgentStatus.{AgentStatus}
use Rattle.picky_agent.specs.declared.status.AgentStatus.TheVariants as statuses
use Rattle.picky_agent.specs.Frame.{HasBadLength, IsCutFrame}

pub data Ending : Type 0 where
  -- nothing
  AtMessage : Ending
  AtBadLength : Ending
  InMessage : Ending

abbrev pub IsEnding : Ending → (rest : List ℕ) → Type 0
IsEnding AtMessage rest = rest ≡ []
IsEnding AtBadLength rest = (more : List ℕ) × HasBadLength rest more
IsEnding InMessage rest = IsCutFrame rest

-- the stream is these messages, and then what this ending says
pub record EndsAs (stream : List ℕ) (messages : List (List ℕ)) (ending : Ending) : Type 0 where
  pub each : AllByRecursion IsMessage messages
  pub rest : List ℕ
  pub are : stream ≡ flat_map string_of messages ++ rest
  pub ends : IsEnding ending rest

-- a status that speaks of the stream's ending says that one
abbrev pub Tells : AgentStatus → Ending → Type 0
Tells statuses.Done ending = ending ≡ AtMessage
Tells statuses.BadFrame ending = ending ≡ AtBadLength
Tells statuses.Cut ending = ending ≡ InMessage
Tells statuses.ReadFault ending = Unit {0}
Tells statuses.WriteFault ending = Unit {0}
Tells statuses.NoMemory ending = Unit {0}
Tells statuses.TooMany ending = Unit {0}

-- ---- a stream that asks for no signature

abbrev pub IsOther : Request → Type 0
IsOther (Sign asked) = ⊥
IsOther request = ⊤

-- none of the messages before its ending does
pub record HasNoSign (stream : List ℕ) : Type 0 where
  pub messages : List (List ℕ)
  pub ending : Ending
  pub ends : EndsAs stream messages ending
  pub none : AllByRecursion (λ message. IsOther (request_of message)) messages
