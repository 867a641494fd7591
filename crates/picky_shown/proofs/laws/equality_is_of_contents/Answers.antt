-- The parts of what is shown, one by one.
use Rattle.picky_shown.proofs.EqualityLemmas.{shown_equal}
use Rattle.picky_shown.proofs.laws.equality_is_of_contents.Goals as goal

pub returns-clause-seen : goal.returns-clause-seen
returns-clause-seen c = shown_equal
