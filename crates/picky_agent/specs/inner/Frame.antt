-- Words of private contracts: a message's length and its bytes, each by itself.
use Rattle.std.specs.Prelude.{◌≡◌, ◌<◌, ◌++◌, ℕ, List, [], length, Option, Some, None, Result, Ok, Err}
use Rattle.std.specs.Int.{w32, to_be_bytes}
use Rattle.picky_wire.specs.declared.error.WireError.{WireError}
use Rattle.picky_wire.specs.declared.error.WireError.TheVariants as wire
use Rattle.picky_agent.specs.declared.frame.FrameError.{FrameError}
use Rattle.picky_agent.specs.declared.frame.FrameError.TheVariants as errors
use Rattle.picky_agent.specs.Frame.{HasBadLength}

-- fewer bytes than so many were taken
pub record TakesLess (n : ℕ) (before after : List ℕ) : Type 0 where
  pub taken : List ℕ
  pub are : before ≡ taken ++ after
  pub less : length taken < n

-- what is said of the bytes by the length in front, by their end and by a refusal
abbrev pub Lens : Result (Option ℕ) FrameError → (before after : List ℕ) → Type 0
Lens (Ok (Some len)) before after = before ≡ to_be_bytes w32 len ++ after
Lens (Ok None) before after = before ≡ []
Lens (Err errors.BadFrame) before after = HasBadLength before after
Lens (Err errors.Cut) before after = (0 < length before) × (length before < 4)
Lens (Err errors.ReadFault) before after = TakesLess 4 before after
Lens (Err errors.NoMemory) before after = TakesLess 4 before after

-- the same by so many bytes
abbrev pub Bodies : (len : ℕ) → Result (List ℕ) FrameError → (before after : List ℕ) → Type 0
Bodies len (Ok bytes) before after = before ≡ bytes ++ after
Bodies len (Err errors.BadFrame) before after = ⊥
Bodies len (Err errors.Cut) before after = length before < len
Bodies len (Err errors.ReadFault) before after = TakesLess len before after
Bodies len (Err errors.NoMemory) before after = TakesLess len before after

-- bytes that end too early are a message that is cut
abbrev pub frame_error : WireError → FrameError
frame_error wire.ReadFault = errors.ReadFault
frame_error wire.NoMemory = errors.NoMemory
frame_error e = errors.Cut

-- or, before the first byte, the end of the stream
abbrev pub first_missing : WireError → Result (Option ℕ) FrameError
first_missing wire.ReadFault = Err errors.ReadFault
first_missing wire.NoMemory = Err errors.NoMemory
first_missing e = Ok None
