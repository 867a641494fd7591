-- Each row needs the public parts and comments alone.
use Rattle.picky_agent_bytes.proofs.BareLemmas.{bare_step}
use Rattle.picky_agent_bytes.proofs.laws.secrets_decide_no_reply.Goals as goal

pub returns : goal.returns
returns g c = λ device old new message bare_message reply is step.
    bare_step (g.G.Signer.signs device) old message bare_message reply new is step
