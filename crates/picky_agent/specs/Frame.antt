-- Messages in a stream: each is the string of its bytes (draft-miller-ssh-agent-04).
use Rattle.std.specs.Prelude.{◌≡◌, ◌≤◌, ◌<◌, ◌^◌, ◌++◌, ◌⊎◌, ℕ, List, [], length, Option, Some, None, Result, Ok, Err}
use Rattle.std.specs.Prelude.{IfOk, IfSome}
use Rattle.std.specs.Int.{w32, to_be_bytes}
use Rattle.picky_wire_base.specs.Wire.{string_of}
use Rattle.picky_wire.specs.Count.{Rose}
use Rattle.picky_wire.specs.Takes.{Calm, EndsIn}
pub use Rattle.picky_agent_state.specs.Message.{message_limit, IsMessage}
use Rattle.picky_agent.specs.declared.frame.FrameError.{FrameError}
use Rattle.picky_agent.specs.declared.frame.FrameError.TheVariants as errors

-- the bytes begin with a length that no message has, and the rest follows
pub record HasBadLength (bytes rest : List ℕ) : Type 0 where
  pub len : ℕ
  pub are : bytes ≡ to_be_bytes w32 len ++ rest
  pub fits : len < 2 ^ 32
  pub bad : (len ≡ 0) ⊎ (message_limit < len)

-- they begin with a length that a message has, and fewer bytes follow
pub record HasPart (bytes : List ℕ) : Type 0 where
  pub len : ℕ
  pub part : List ℕ
  pub are : bytes ≡ to_be_bytes w32 len ++ part
  pub some : 1 ≤ len
  pub few : len ≤ message_limit
  pub less : length part < len

-- they end inside a message, in its length or behind it
abbrev pub IsCutFrame : (bytes : List ℕ) → Type 0
IsCutFrame bytes = ((0 < length bytes) × (length bytes < 4)) ⊎ HasPart bytes

-- what was taken is nothing, or the beginning of a message that is not whole
pub record TakesPart (before after : List ℕ) : Type 0 where
  pub taken : List ℕ
  pub are : before ≡ taken ++ after
  pub part : (taken ≡ []) ⊎ IsCutFrame taken

-- what is said of the bytes by the message in front, by their end and by a refusal
abbrev pub Fronts : Result (Option (List ℕ)) FrameError → (before after : List ℕ) → Type 0
Fronts (Ok (Some message)) before after = before ≡ string_of message ++ after
Fronts (Ok None) before after = before ≡ []
Fronts (Err errors.BadFrame) before after = HasBadLength before after
Fronts (Err errors.Cut) before after = IsCutFrame before
Fronts (Err errors.ReadFault) before after = TakesPart before after
Fronts (Err errors.NoMemory) before after = TakesPart before after

-- what each step over the source keeps, and when it counts a fault
pub record Walks {S A : Type 0} (tells : S → Type 0) (left : S → List ℕ) (faults : S → ℕ) (result : Result A FrameError)
    (old new : S) : Type 0 where
  pub told : tells old → tells new
  -- what was taken stood in front
  pub front : tells old → (bytes : List ℕ) → EndsIn bytes (left old) → EndsIn bytes (left new)
  pub fault : result ≡ Err errors.ReadFault → Rose (faults old) (faults new)
  pub calm : Calm errors.ReadFault result (faults old) (faults new)

-- what a call promises that takes a message from a source, where one is left
pub record TakesMessage {S : Type 0} (tells : S → Type 0) (left : S → List ℕ) (faults : S → ℕ)
    (result : Result (Option (List ℕ)) FrameError) (old new : S) : Type 0 where
  pub fronts : tells old → Fronts result (left old) (left new)
  pub is_message : IfOk result (λ found. IfSome found IsMessage)
  pub walks : Walks tells left faults result old new
