-- The lemma on what a meaning keeps.
use Rattle.picky_key_text.proofs.KeptLaws.{meaning_is_kept}
use Rattle.picky_key_text.proofs.laws.meaning_keeps_its_ranges.Goals as goal

pub returns : goal.returns
returns c = meaning_is_kept
