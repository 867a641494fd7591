-- A file's fields one by one.
use Rattle.picky_ppk_file.proofs.EqualityLemmas.{file_equal}
use Rattle.picky_ppk.proofs.laws.equality_is_of_contents.Goals as goal

pub returns-clause-ppk : goal.returns-clause-ppk
returns-clause-ppk c = file_equal
