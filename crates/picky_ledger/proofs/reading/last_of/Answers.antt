use Rattle.picky_ledger.proofs.WrittenLemmas.{last_is}
use Rattle.picky_ledger.proofs.reading.last_of.Goals as goal

pub returns-in-Some : goal.returns-in-Some
returns-in-Some c = last_is 0 c.args.entries.now c.in-Some.entry.now c.in-Some.ensures.value
