-- The law on the failure.
use Rattle.picky_agent_state.proofs.FailureLaws.{fails_for_cause}
use Rattle.picky_agent_state.proofs.laws.failure_comes_for_a_cause.Goals as goal

pub returns : goal.returns
returns g c = λ device. fails_for_cause (g.G.Signer.signs device)
