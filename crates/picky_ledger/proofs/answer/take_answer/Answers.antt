-- Of a source that gives no text some bytes are refused so.
use Rattle.std.proofs.Common.{Err, ap}
use Rattle.picky_ledger.proofs.RunLemmas.{some_stop}
use Rattle.picky_ledger.proofs.answer.take_answer.Goals as goal

pub returns-in-Err-clause-comes_for_some : goal.returns-in-Err-clause-comes_for_some
returns-in-Err-clause-comes_for_some g c =
    some_stop (g.G.Signer.signs c.args.signer.now) c.args.fresh.now _ _ c.in-Err.e c.source_status.result c.source_status.ensures
    (λ is. c.in-Err.ensures.takes.fault (ap Err is))
