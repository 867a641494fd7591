use Rattle.picky_authorized.proofs.OwnLaws.{content_is_own, entry_is_own}
use Rattle.picky_authorized.proofs.laws.lines_are_refused_for_themselves.Goals as goal

pub returns-clause-line : goal.returns-clause-line
returns-clause-line c = content_is_own

pub returns-clause-entry : goal.returns-clause-entry
returns-clause-entry c = entry_is_own
