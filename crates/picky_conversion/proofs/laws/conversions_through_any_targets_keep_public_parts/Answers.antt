-- The lemma on public parts.
use Rattle.picky_conversion.proofs.KeptLemmas.{public_parts_stay}
use Rattle.picky_conversion.proofs.laws.conversions_through_any_targets_keep_public_parts.Goals as goal

pub returns : goal.returns
returns g c = λ device. public_parts_stay (g.G.Signer.signs device)
