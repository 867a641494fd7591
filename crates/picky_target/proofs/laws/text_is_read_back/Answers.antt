use Rattle.picky_target.proofs.ReadBackLaws.{spelled_is_read_back}
use Rattle.picky_target.proofs.laws.text_is_read_back.Goals as goal

pub returns : goal.returns
returns c = spelled_is_read_back
