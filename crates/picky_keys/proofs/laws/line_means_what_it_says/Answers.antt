-- A line's meaning is the relation's.
use Rattle.picky_keys.proofs.LineLaws.{line_meaning_of, one_line_meaning}
use Rattle.picky_keys.proofs.laws.line_means_what_it_says.Goals as goal

pub returns-clause-means : goal.returns-clause-means
returns-clause-means c = line_meaning_of

pub returns-clause-one : goal.returns-clause-one
returns-clause-one c = one_line_meaning
