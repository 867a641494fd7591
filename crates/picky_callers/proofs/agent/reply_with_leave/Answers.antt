-- By the step of the agent, or where its user gives no leave, by that of a signer that failed.
use Rattle.picky.specs.Count.{count_one}
use Rattle.std.proofs.Common.{refl}
use Rattle.picky_callers.proofs.SignedReplyLemmas.{answer_is_signed, failure_steps}
use Rattle.picky_callers.proofs.agent.reply_with_leave.Goals as goal

pub returns-then-may_sign-clause-signed : goal.returns-then-may_sign-clause-signed
returns-then-may_sign-clause-signed g c = λ asked is.
    answer_is_signed (g.G.Signer.signs c.args.signer.now) _ _ c.args.message.now asked c.answer.result is c.answer.ensures.step

pub returns-in-None-clause-signed : goal.returns-in-None-clause-signed
returns-in-None-clause-signed g c = λ asked is.
    answer_is_signed (g.G.Signer.signs c.args.signer.now) _ _ c.args.message.now asked c.answer-in-None.result is
    c.answer-in-None.ensures.step

pub returns-in-Some-clause-step : goal.returns-in-Some-clause-step
returns-in-Some-clause-step g c =
    let before = g.G.Signer.faults c.args.signer.now in
    failure_steps (g.G.Signer.signs c.args.signer.now) c.args.agent.now before before c.args.message.now c.in-Some.field-0
    c.args.may_sign c.failure.result c.if-may_sign.false c.in-Some.ensures
    (λ asked is question.
    c.question_is_answered.ensures.failed c.args.signer.now c.args.agent.now before (count_one before) c.args.message.now asked
    c.in-Some.field-0 is question refl)
    c.failure.ensures
