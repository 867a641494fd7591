-- The law of a text that is written.
use Rattle.picky_ppk_file.proofs.ReadBackLaws.{written_is_read_back}
use Rattle.picky_ppk.proofs.CheckedLaws.{read_file_is_taken}
use Rattle.picky_ppk.proofs.laws.file_is_read_back.Goals as goal

pub returns : goal.returns
returns c = λ m f text more is line holds written. read_file_is_taken m f text more (written_is_read_back f text more is line written) holds
