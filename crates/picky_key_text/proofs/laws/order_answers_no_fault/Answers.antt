-- The lemma on the order of refusals.
use Rattle.picky_key_text.proofs.RefusalLaws.{reading_own}
use Rattle.picky_key_text.proofs.laws.order_answers_no_fault.Goals as goal

pub returns : goal.returns
returns c = reading_own
