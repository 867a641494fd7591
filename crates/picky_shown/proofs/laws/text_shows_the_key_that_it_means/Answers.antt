-- The lemmas on what a text shows.
use Rattle.picky_shown.proofs.ShownLaws.{open_text_is_shown, read_is_shown, unsealed_is_read}
use Rattle.picky_shown.proofs.laws.text_shows_the_key_that_it_means.Goals as goal

pub returns-clause-read : goal.returns-clause-read
returns-clause-read c = read_is_shown

pub returns-clause-bare : goal.returns-clause-bare
returns-clause-bare c = open_text_is_shown

pub returns-clause-unsealed : goal.returns-clause-unsealed
returns-clause-unsealed c = unsealed_is_read
