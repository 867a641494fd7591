-- The lemma on the parts of a text.
use Rattle.picky_issuing.proofs.PartsText.{parts_are_text}
use Rattle.picky_issuing.proofs.laws.parts_are_text.Goals as goal

pub returns : goal.returns
returns c = parts_are_text
