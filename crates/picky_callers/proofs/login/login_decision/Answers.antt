-- It is decided on the entries of the text, and on its one offer.
use Rattle.std.proofs.Common.{List, arith, subst, sym}
use Rattle.picky.specs.Decided.{IsDecision}
use Rattle.picky.specs.WireNumbers.{IsBytes}
use Rattle.picky.specs.declared.policy.AuthEntry.{AuthEntry}
use Rattle.picky_callers.proofs.LoginLemmas.{decision_is, read_entries}
use Rattle.picky_callers.proofs.login.login_decision.Goals as goal

pub returns-in-Ok-decide-clause-ok : goal.returns-in-Ok-decide-clause-ok
returns-in-Ok-decide-clause-ok g c =
    let verifies = g.V.Verifier.verifies c.args.verifier.now in
    let offer = c.in-Ok-from_str.offer in
    let small : IsBytes c.args.offer.now = λ i. let fits = c.type_inv.offer i in omega (arith, fits) in (
      offer,
      (c.text_is_one_offer.ensures c.args.offer.now offer small).0 c.in-Ok-from_str.ensures,
      subst (λ (entries : List AuthEntry). IsDecision verifies entries offer c.args.user.now c.args.now c.in-Ok-decide.decision)
          (sym (read_entries c.args.authorized_keys.now c.in-Ok.entries c.in-Ok.ensures.gives))
          (decision_is verifies c.in-Ok.entries offer c.args.user.now c.args.now c.in-Ok-decide.decision
          c.in-Ok-decide.ensures.decides c.in-Ok-decide.ensures.granted c.in-Ok-decide.ensures.denied),
    )
