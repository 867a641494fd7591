-- Request by request.
use Rattle.picky_ledger.proofs.AfterLaws.{runs_leave}
use Rattle.picky_ledger.proofs.laws.requests_leave_a_ledger.Goals as goal

pub returns : goal.returns
returns g c = runs_leave (g.G.Signer.signs c.args._signer.now)
