-- The lemma on the order of refusals.
use Rattle.picky_shown.proofs.RefusalLaws.{shows_own}
use Rattle.picky_shown.proofs.laws.order_answers_no_fault.Goals as goal

pub returns : goal.returns
returns c = shows_own
