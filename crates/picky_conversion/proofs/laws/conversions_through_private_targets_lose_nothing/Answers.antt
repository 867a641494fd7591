-- The lemma on a list of conversions.
use Rattle.picky_conversion.proofs.LawLemmas.{chain_is_direct}
use Rattle.picky_conversion.proofs.laws.conversions_through_private_targets_lose_nothing.Goals as goal

pub returns : goal.returns
returns c = chain_is_direct
