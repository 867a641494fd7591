-- What is granted is allowed, and what is denied isn't.
use Rattle.std.proofs.Common.{subst, sym}
use Rattle.picky_policy.specs.Decided.{Allows}
use Rattle.picky_policy.proofs.DecideLemmas.{denied_so, granted_so, wanted_so}
use Rattle.picky_policy.proofs.deciding.decide.Goals as goal

pub returns-clause-granted : goal.returns-clause-granted
returns-clause-granted g c = λ grant is.
    let verifies = g.V.Verifier.verifies c.args.verifier.now in
    subst (λ e. Allows verifies e c.args.offer.now c.args.user.now c.args.moment grant) c.as_slice.ensures
    (granted_so verifies c.as_slice.result.now c.args.user.now c.args.moment c.args.offer.now _ _ c.decide_over.result grant
    c.decide_over.ensures.decides is)

pub returns-clause-denied : goal.returns-clause-denied
returns-clause-denied g c = λ why grant is allows.
    let verifies = g.V.Verifier.verifies c.args.verifier.now in
    denied_so verifies c.as_slice.result.now c.args.user.now c.args.moment c.args.offer.now _ _ c.decide_over.result why grant
    c.decide_over.ensures.decides is
    (subst (λ e. Allows verifies e c.args.offer.now c.args.user.now c.args.moment grant) (sym c.as_slice.ensures) allows)

pub returns-clause-no_memory_only_if_let_in : goal.returns-clause-no_memory_only_if_let_in
returns-clause-no_memory_only_if_let_in g c = λ is.
    let verifies = g.V.Verifier.verifies c.args.verifier.now in
    let some = wanted_so verifies c.as_slice.result.now c.args.user.now c.args.moment c.args.offer.now _ _ c.decide_over.result
    c.decide_over.ensures.decides is in (
      some.0,
      subst (λ e. Allows verifies e c.args.offer.now c.args.user.now c.args.moment some.0) c.as_slice.ensures some.1,
    )
