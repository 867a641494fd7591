-- What is served of a stream, and how serving ends.
use Rattle.std.specs.Prelude.{◌≡◌, ◌≢◌, ◌<◌, ◌≤◌, ◌-◌, ◌^◌, ◌++◌, ◌⊎◌, ℕ, List, [], ◌∷◌, length, take}
use Rattle.std.specs.Prelude.{Result, Ok, Err}
use Rattle.std.specs.List.{AllByRecursion}
use Rattle.picky_wire_base.specs.Wire.{string_of}
use Rattle.picky_wire.specs.Count.{Rose}
use Rattle.picky_wire.specs.Takes.{EndsIn}
use Rattle.picky_suite.specs.Signs.{SignRelation}
use Rattle.picky_agent_state.specs.Kept.{Kept, machine}
use Rattle.picky_agent.specs.declared.status.AgentStatus.{AgentStatus}
use Rattle.picky_agent.specs.declared.status.AgentStatus.TheVariants as statuses
use Rattle.picky_agent.specs.Frame.{HasBadLength, IsCutFrame, IsMessage, TakesPart}
use Rattle.picky_agent.specs.Run.{Exchange, IsExchange, Run, asked, answered}

-- all that there is at one moment: what the agent keeps, what the source has left, what was written, and the three counts of faults
pub record Scene : Type 0 where
  pub kept : Kept
  pub signer_faults : ℕ
  pub left : List ℕ
  pub source_faults : ℕ
  pub written : List ℕ
  pub sink_faults : ℕ

abbrev pub scene : Kept → (signer_faults : ℕ) → (left : List ℕ) → (source_faults : ℕ) → (written : List ℕ)
    → (sink_faults : ℕ) → Scene
scene kept signer_faults left source_faults written sink_faults = record {
  kept = kept;
  signer_faults = signer_faults;
  left = left;
  source_faults = source_faults;
  written = written;
  sink_faults = sink_faults;
}

-- ---- what was read: the messages, and then what the answer says of the rest, of which this much is left. Ok: more may follow

-- a message was taken, to which there is no reply
pub record TakesOne (rest left : List ℕ) : Type 0 where
  pub message : List ℕ
  pub is_message : IsMessage message
  pub are : rest ≡ string_of message ++ left

abbrev pub Halts : Result (Unit {0}) AgentStatus → (rest left : List ℕ) → Type 0
Halts (Ok more) rest left = rest ≡ left
Halts (Err statuses.Done) rest left = rest ≡ []
Halts (Err statuses.BadFrame) rest left = HasBadLength rest left
Halts (Err statuses.Cut) rest left = IsCutFrame rest
Halts (Err statuses.ReadFault) rest left = TakesPart rest left
Halts (Err statuses.WriteFault) rest left = rest ≡ left
Halts (Err statuses.NoMemory) rest left = TakesPart rest left ⊎ TakesOne rest left
Halts (Err statuses.TooMany) rest left = rest ≡ left

pub record ReadsMessages (result : Result (Unit {0}) AgentStatus) (exchanges : List Exchange)
    (before after : List ℕ) : Type 0 where
  pub rest : List ℕ
  pub are : before ≡ asked exchanges ++ rest
  pub ends : EndsIn rest after
  pub halts : Halts result rest after

-- ---- what was written: the replies; after a fault all but the last, and a prefix of that

pub record BreaksOff (exchanges : List Exchange) (before after : List ℕ) : Type 0 where
  pub answered_all : List Exchange
  pub last : Exchange
  pub are : exchanges ≡ answered_all ++ last ∷ []
  pub len : ℕ
  pub less : len < length (string_of last.reply)
  pub written : after ≡ (before ++ answered answered_all) ++ take len (string_of last.reply)

abbrev pub Wrote : Result (Unit {0}) AgentStatus → List Exchange → (before after : List ℕ) → Type 0
Wrote (Err statuses.WriteFault) exchanges before after = BreaksOff exchanges before after
Wrote result exchanges before after = after ≡ before ++ answered exchanges

-- ---- the counts of the streams: one fault for the status that says so, and else none

abbrev pub Counts : Result (Unit {0}) AgentStatus → (old new : Scene) → Type 0
Counts (Err statuses.ReadFault) old new =
    Rose old.source_faults new.source_faults × (new.sink_faults ≡ old.sink_faults)
Counts (Err statuses.WriteFault) old new =
    (new.source_faults ≡ old.source_faults) × Rose old.sink_faults new.sink_faults
Counts result old new = (new.source_faults ≡ old.source_faults) × (new.sink_faults ≡ old.sink_faults)

-- ---- a stretch of serving

pub record Serves (signs : SignRelation) (tells_in tells_out : Type 0) (result : Result (Unit {0}) AgentStatus) (n : ℕ)
    (old new : Scene) : Type 0 where
  -- so many messages, each with its reply
  pub exchanges : List Exchange
  pub count : length exchanges ≡ n
  pub each : AllByRecursion IsExchange exchanges
  -- the machine runs over them from what was kept to what is; where memory didn't run out, its number of faults is the signer's, and
  -- else no higher
  pub faults : ℕ
  pub run : Run signs (machine old.kept old.signer_faults) exchanges (machine new.kept faults)
  pub no_higher : faults ≤ new.signer_faults
  pub exact : result ≢ Err statuses.NoMemory → faults ≡ new.signer_faults
  -- the streams
  pub reads : tells_in → ReadsMessages result exchanges old.left new.left
  pub wrote : tells_out → Wrote result exchanges old.written new.written
  pub counts : Counts result old new

-- ---- the whole of it

-- how many messages there can be, of which the one before a fault of the sink isn't answered whole
abbrev pub most_messages : ℕ
most_messages = 2 ^ 64 - 1

abbrev pub HasCount : AgentStatus → (n : ℕ) → Type 0
HasCount statuses.TooMany n = n ≡ most_messages
HasCount statuses.WriteFault n = n ≤ most_messages
HasCount status n = n < most_messages

-- the status with which serving ends, after so many messages
pub record Served (signs : SignRelation) (tells_in tells_out : Type 0) (status : AgentStatus) (old new : Scene) : Type 0 where
  pub n : ℕ
  pub counted : HasCount status n
  pub serves : Serves signs tells_in tells_out (Err status) n old new
