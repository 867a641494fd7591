-- The fields of an entry, one by one.
use Rattle.picky_ledger.proofs.EqualityLemmas.{entries_equal}
use Rattle.picky_ledger.proofs.laws.equality_is_of_contents.Goals as goal

pub returns-clause-entry : goal.returns-clause-entry
returns-clause-entry c = entries_equal
