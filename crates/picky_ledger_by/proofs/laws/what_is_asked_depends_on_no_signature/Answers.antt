-- The entry of an id says its line and its serial.
use Rattle.picky_ledger_by.proofs.ApplyLemmas.{judged_alike}
use Rattle.picky_ledger_by.proofs.laws.what_is_asked_depends_on_no_signature.Goals as goal

pub returns : goal.returns
returns c = judged_alike
