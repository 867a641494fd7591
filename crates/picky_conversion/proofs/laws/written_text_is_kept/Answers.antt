-- The lemma on a text that is converted again.
use Rattle.picky_conversion.proofs.LawLemmas.{text_is_kept}
use Rattle.picky_conversion.proofs.laws.written_text_is_kept.Goals as goal

pub returns : goal.returns
returns c = text_is_kept
