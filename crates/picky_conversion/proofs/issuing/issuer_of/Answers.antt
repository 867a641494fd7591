-- What is answered, from what reading answers.
use Rattle.picky_conversion.proofs.AnswerLemmas.{refused_leaves, refuses_issuer}
use Rattle.picky_conversion.proofs.IssueLemmas.{issuer_is_read, issuer_refused, none_leaves, read_leaves}
use Rattle.picky_conversion.specs.Outside.{outside}
use Rattle.picky_conversion.specs.Refusal.{issuer_refusal}
use Rattle.picky_target.specs.declared.error.ConvertError.TheVariants as errors
use Rattle.picky_conversion.proofs.issuing.issuer_of.Goals as goal

pub returns-in-Ok-clause-gives : goal.returns-in-Ok-clause-gives
returns-in-Ok-clause-gives g c =
    let o = outside (g.S.Suite.meanings c.args.suite.now) c.args.given in
    rw c.in-Some.is (issuer_is_read o c.in-Some.text.now c.in-Ok.meaning c.in-Ok.ensures.gives)

pub returns-in-Ok-clause-suite : goal.returns-in-Ok-clause-suite
returns-in-Ok-clause-suite g c = rw c.in-Some.is (read_leaves _ _ c.in-Some.text.now _ c.in-Ok.meaning _ _ _ c.in-Ok.ensures.suite)

pub returns-in-Err-clause-gives : goal.returns-in-Err-clause-gives
returns-in-Err-clause-gives g c =
    let o = outside (g.S.Suite.meanings c.args.suite.now) c.args.given in
    rw (c.in-Some.is, c.issuer_refusal.ensures) (issuer_refused o c.in-Some.text.now c.in-Err.e _ c.in-Err.ensures.gives)

pub returns-in-Err-clause-suite : goal.returns-in-Err-clause-suite
returns-in-Err-clause-suite g c =
    rw (c.in-Some.is, c.issuer_refusal.ensures)
    (refused_leaves (λ e. errors.Issuer e) issuer_refusal refuses_issuer _ _ _ _ c.in-Some.text.now c.in-Err.e _ _ (λ no. no)
    c.in-Err.ensures.gives c.in-Err.ensures.suite)

pub returns-in-None-clause-suite : goal.returns-in-None-clause-suite
returns-in-None-clause-suite g c = rw c.in-None.is (none_leaves _ _ _ _ _)
