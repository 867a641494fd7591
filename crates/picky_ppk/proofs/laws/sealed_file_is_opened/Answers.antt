-- The law of a sealed file.
use Rattle.picky_ppk.proofs.SealLaws.{sealed_opened}
use Rattle.picky_ppk.proofs.laws.sealed_file_is_opened.Goals as goal

pub returns : goal.returns
returns c = sealed_opened
