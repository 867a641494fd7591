-- Line by line.
use Rattle.picky_ppk_file.proofs.ReadBackLaws.{written_is_read_back}
use Rattle.picky_ppk_file.proofs.laws.file_is_read_back.Goals as goal

pub returns : goal.returns
returns c = written_is_read_back
