-- Words of private contracts: how one turn of serving ends.
use Rattle.std.specs.Prelude.{ℕ, Result, Ok, Err}
use Rattle.picky_agent.specs.declared.frame.FrameError.{FrameError}
use Rattle.picky_agent.specs.declared.frame.FrameError.TheVariants as errors
use Rattle.picky_agent.specs.declared.status.AgentStatus.{AgentStatus}
use Rattle.picky_agent.specs.declared.status.AgentStatus.TheVariants as statuses

abbrev pub frame_status : FrameError → AgentStatus
frame_status errors.BadFrame = statuses.BadFrame
frame_status errors.Cut = statuses.Cut
frame_status errors.ReadFault = statuses.ReadFault
frame_status errors.NoMemory = statuses.NoMemory

-- a turn took one message, or none
abbrev pub taken_in : Result (Unit {0}) AgentStatus → ℕ
taken_in (Ok more) = 1
taken_in (Err statuses.WriteFault) = 1
taken_in (Err status) = 0
