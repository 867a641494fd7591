-- The law of the parts that a key makes.
use Rattle.picky_ppk_parts.proofs.ReadBackLaws.{parts_read_back}
use Rattle.picky_ppk_parts.proofs.laws.key_is_read_back.Goals as goal

pub returns : goal.returns
returns c = parts_read_back
