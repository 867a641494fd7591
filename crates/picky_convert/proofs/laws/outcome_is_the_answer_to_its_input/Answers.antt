-- The lemma on the outcome of bytes.
use Rattle.picky_convert.proofs.RunLemmas.{outcome_valid}
use Rattle.picky_convert.proofs.laws.outcome_is_the_answer_to_its_input.Goals as goal

pub returns : goal.returns
returns c = outcome_valid
