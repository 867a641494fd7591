-- What is decided over the entries of the file, and its lines.
use Rattle.picky_policy.proofs.RunLemmas.{decided_answers}
use Rattle.picky_policy.proofs.answer.decided.Goals as goal

pub returns-in-Ok-decision-clause-answers : goal.returns-in-Ok-decision-clause-answers
returns-in-Ok-decision-clause-answers g c =
    decided_answers (g.V.Verifier.verifies c.args.verifier.now) c.args.user.now c.args.moment c.args.file.now c.args.offer.now
    c.in-Ok.entries _ c.decide-decision.result c.in-Ok.ensures.gives c.decide-decision.ensures.decides
    c.in-Ok-decision.decision c.decision_answer-answer.result c.in-Ok-decision.is
    c.decide-decision.ensures.granted c.decide-decision.ensures.denied
    c.decision_answer-answer.ensures.lines c.decision_answer-answer.ensures.want
