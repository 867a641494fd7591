-- Request by request.
use Rattle.picky_ledger_by.proofs.RunLemmas.{good_run}
use Rattle.picky_ledger_by.proofs.laws.good_answers_make_a_good_run.Goals as goal

pub returns : goal.returns
returns g c = good_run (g.G.Signer.signs c.args._signer.now)
