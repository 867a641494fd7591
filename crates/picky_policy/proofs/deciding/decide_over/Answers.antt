-- A key is decided on without the verifier.
use Rattle.std.proofs.Common.{sym, subst}
use Rattle.picky_wire.specs.Count.{Rose}
use Rattle.picky_policy.specs.Decided.{Accepts, Decides, verifier_asks, decided}
use Rattle.picky_policy.proofs.DecideLemmas.{key_decides}
use Rattle.picky_policy.proofs.deciding.decide_over.Goals as goal

pub returns-in-Key-clause-decides : goal.returns-in-Key-clause-decides
returns-in-Key-clause-decides g c =
    let verifies = g.V.Verifier.verifies c.args.verifier.now in
    subst (λ o. Decides (Accepts verifies o) (decided c.args.entries.now o c.args.user.now c.args.moment)
    (verifier_asks c.args.entries.now o c.args.user.now c.args.moment)
    (Rose (g.V.Verifier.faults c.args.verifier.now) (g.V.Verifier.faults c.args.verifier.now)) c.decide_key.result) (sym c.in-Key.is)
    (key_decides verifies c.args.entries.now c.args.user.now c.args.moment c.in-Key.key _ c.decide_key.result
    (c.decide_key.ensures c.args.user.now c.args.moment))
