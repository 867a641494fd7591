-- Of each machine.
use Rattle.picky_agent_bytes.proofs.HandedLemmas.{handed_is_step}
use Rattle.picky_agent_bytes.proofs.laws.a_reply_is_a_step.Goals as goal

pub returns : goal.returns
returns g c = λ device. handed_is_step (g.G.Signer.signs device)
