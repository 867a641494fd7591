-- The lemma on the texts of each key.
use Rattle.picky_convert.proofs.ChainLemmas.{texts_are_converted}
use Rattle.picky_convert.proofs.sample_laws.sample_texts_are_conversions.Goals as goal

pub returns : goal.returns
returns c = texts_are_converted
