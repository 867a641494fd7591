-- How the program ends.
use Rattle.std.specs.Prelude.{ℕ}
use Rattle.picky_agent.specs.declared.status.AgentStatus.{AgentStatus}
use Rattle.picky_agent.specs.declared.status.AgentStatus.TheVariants as statuses

-- the number of each status: 0 for Done
abbrev pub exit_code : AgentStatus → ℕ
exit_code statuses.Done = 0
exit_code statuses.BadFrame = 1
exit_code statuses.Cut = 2
exit_code statuses.ReadFault = 3
exit_code statuses.WriteFault = 4
exit_code statuses.NoMemory = 5
exit_code statuses.TooMany = 6
