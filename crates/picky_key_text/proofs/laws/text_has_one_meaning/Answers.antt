-- The lemmas on the meaning of a text.
use Rattle.picky_key_text.proofs.ReadingLaws.{reading_says, reading_of, one_meaning}
use Rattle.picky_key_text.proofs.laws.text_has_one_meaning.Goals as goal

pub returns-clause-says : goal.returns-clause-says
returns-clause-says c = reading_says

pub returns-clause-read : goal.returns-clause-read
returns-clause-read c = reading_of

pub returns-clause-one : goal.returns-clause-one
returns-clause-one c = one_meaning
