-- The lemma on equal texts.
use Rattle.picky_conversion.proofs.KeptLemmas.{text_binds}
use Rattle.picky_conversion.proofs.laws.texts_bind_what_is_kept.Goals as goal

pub returns : goal.returns
returns c = text_binds
