-- A text means what it says, and says one key.
use Rattle.picky_ppk_file.proofs.MeaningLaws.{putty_meaning_of, one_putty_meaning}
use Rattle.picky_ppk_file.proofs.public_laws.text_means_what_it_says.Goals as goal

pub returns-clause-means : goal.returns-clause-means
returns-clause-means c = putty_meaning_of

pub returns-clause-one : goal.returns-clause-one
returns-clause-one c = one_putty_meaning
