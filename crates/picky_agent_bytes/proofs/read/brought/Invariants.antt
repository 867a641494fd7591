-- What the rest brings to the agent so far is what all of them bring.
use Rattle.std.proofs.Common.{◌≡◌, ◌≤◌, length}
use Rattle.picky_agent_state.specs.Keep.{keep_limit}
use Rattle.picky_agent_state.specs.Kept.{new_agent}
use Rattle.picky_agent_bytes.specs.State.{brought}
use Rattle.picky_agent_bytes.proofs.read.brought.Given as goal

abbrev pub invariant-messages : goal.invariant-messages
invariant-messages l = (length l.rest ≤ keep_limit) × (brought l.agent l.rest ≡ brought new_agent l.bytes)

abbrev pub decreases-messages : goal.decreases-messages
decreases-messages l = length l.rest
