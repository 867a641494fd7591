-- No other text spells them.
use Rattle.picky_ppk_file.proofs.PuttyLaws.{putty_public_only}
use Rattle.picky_ppk_file.proofs.public_laws.text_is_the_one_spelling.Goals as goal

pub returns-clause-one : goal.returns-clause-one
returns-clause-one c = putty_public_only
