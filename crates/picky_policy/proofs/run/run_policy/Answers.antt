-- What the command says is what the words ask for.
use Rattle.std.proofs.Common.{◌≡◌}
use Rattle.picky_policy.specs.Command.{asked_by}
use Rattle.picky_policy.proofs.EndLemmas.{complete_end, ends_done, exact_end}
use Rattle.picky_policy.proofs.run.run_policy.Goals as goal

pub returns-in-Some-clause-ends : goal.returns-in-Some-clause-ends
returns-in-Some-clause-ends g c = λ a named told.
    let same : a ≡ asked_by c.in-Some.command = cc (c.in-Some.ensures, named) in
    rw same (c.perform.ensures.ends told)

pub returns-in-Some-clause-ends_for_some : goal.returns-in-Some-clause-ends_for_some
returns-in-Some-clause-ends_for_some g c = λ a named.
    let same : a ≡ asked_by c.in-Some.command = cc (c.in-Some.ensures, named) in
    rw same (c.perform.ensures.ends_for_some)

pub returns-in-Some-clause-done : goal.returns-in-Some-clause-done
returns-in-Some-clause-done g c = λ a named done told tells.
    ends_done (g.V.Verifier.verifies c.args.verifier.now) a (g.I.Source.left c.args.source.now) _ _ _ _ _ _ c.perform.result done
    (returns-in-Some-clause-ends g c a named told) tells

pub returns-in-Some-clause-exact : goal.returns-in-Some-clause-exact
returns-in-Some-clause-exact g c = λ a named told read status none.
    exact_end (g.V.Verifier.verifies c.args.verifier.now) a (g.I.Source.left c.args.source.now) _ _ _ _ _ _
    c.perform.result status (returns-in-Some-clause-ends g c a named told) read none

pub returns-in-Some-clause-complete : goal.returns-in-Some-clause-complete
returns-in-Some-clause-complete g c = λ a named told read write outside offer is.
    complete_end (g.V.Verifier.verifies c.args.verifier.now) a (g.I.Source.left c.args.source.now) _ _ _ _ _ _
    c.perform.result offer (returns-in-Some-clause-ends g c a named told) read write outside is
