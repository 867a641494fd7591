-- What is kept doesn't depend on the signer.
use Rattle.std.proofs.Common.{[]}
use Rattle.picky_suite.specs.Signs.{SignsAsHanded}
use Rattle.picky_agent_state.specs.Kept.{machine}
use Rattle.picky_agent_bytes.specs.Call.{handed}
use Rattle.picky_agent_bytes.proofs.AlikeLemmas.{kept_alike}
use Rattle.picky_agent_bytes.proofs.laws.each_step_leaves_the_same.Goals as goal

pub returns : goal.returns
returns g c = λ device kept next faults message reply new is step.
    kept_alike (g.G.Signer.signs device) (SignsAsHanded (handed [])) kept faults 0 message reply is.0 new (machine next is.1) step is.2
