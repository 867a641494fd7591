-- A file's fields one by one.
use Rattle.picky_ppk_file.proofs.EqualityLemmas.{file_equal}
use Rattle.picky_ppk_file.proofs.laws.equality_is_of_contents.Goals as goal

pub returns-clause-file : goal.returns-clause-file
returns-clause-file c = file_equal
