-- The lemma on a text with another comment.
use Rattle.picky_changed.proofs.CommentLaws.{commented_is_read}
use Rattle.picky_changed.proofs.laws.changed_text_is_read_back.Goals as goal

pub returns : goal.returns
returns c = commented_is_read
