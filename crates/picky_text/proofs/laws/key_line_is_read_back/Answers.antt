use Rattle.picky_text.proofs.WordLaws.{key_line_is_read_back}
use Rattle.picky_text.proofs.laws.key_line_is_read_back.Goals as goal

pub returns : goal.returns
returns c = key_line_is_read_back
