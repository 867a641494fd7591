-- The lemma on refusals.
use Rattle.picky_convert.proofs.CauseLemmas.{refused_is_own}
use Rattle.picky_convert.proofs.laws.refusals_tell_of_no_device.Goals as goal

pub returns : goal.returns
returns g c = λ device o command input e refused. refused_is_own (g.G.Signer.signs device) o command input e refused
