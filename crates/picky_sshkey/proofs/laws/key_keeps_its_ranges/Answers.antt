-- Each clause is a law.
use Rattle.picky_sshkey.proofs.ReadLaws.{content_is_kept, made_is_kept, text_is_kept}
use Rattle.picky_sshkey.proofs.laws.key_keeps_its_ranges.Goals as goal

pub returns-clause-content : goal.returns-clause-content
returns-clause-content c = content_is_kept

pub returns-clause-text : goal.returns-clause-text
returns-clause-text c = text_is_kept

pub returns-clause-made : goal.returns-clause-made
returns-clause-made c = made_is_kept
