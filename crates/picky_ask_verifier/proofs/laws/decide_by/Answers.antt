use Rattle.std.proofs.Common.{◌≡◌, true, ap, subst}
use Rattle.picky_policy.specs.Decided.{IsDecision}
use Rattle.picky_ask_verifier.specs.Verdicts.{IsGood, VerifierState}
use Rattle.picky_ask_verifier.proofs.DecisionLemmas.{decision_so}
use Rattle.picky_ask_verifier.proofs.laws.decide_by.Goals as goal

pub returns-in-Ok-clause-decided : goal.returns-in-Ok-clause-decided
returns-in-Ok-clause-decided g c =
    let test = g.K.KnownVerdicts.test in
    let listed = c.new-verifier.result.entries in
    let table : listed ≡ c.args.table.now = ap (λ (s : VerifierState). s.entries) c.new-verifier.ensures in
    subst (λ entries. IsDecision (IsGood test entries) c.args.entries.now c.args.offer.now c.args.user.now c.args.moment c.in-Ok.decision)
    table
    (subst (λ user. IsDecision (IsGood test listed) c.args.entries.now c.args.offer.now user c.args.moment c.in-Ok.decision)
    c.as_str.ensures.bytes
    (decision_so (IsGood test listed) c.args.entries.now c.args.offer.now c.as_str.result.now c.args.moment true (Unit {0})
    c.in-Ok.decision c.in-Ok.ensures.decides))
