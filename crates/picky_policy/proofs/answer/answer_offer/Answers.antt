-- What is answered, by what is asked for.
use Rattle.std.proofs.Common.{◌≡◌, false, subst, sym}
use Rattle.picky_wire_base.specs.Outcome.{map_ok}
use Rattle.picky_wire.specs.Count.{Rose}
use Rattle.picky_policy.specs.Command.{asked_by}
use Rattle.picky_policy.specs.Run.{is_asked}
use Rattle.picky_policy.specs.inner.Comes.{AnswersOffer, answer_shown}
use Rattle.picky_policy.proofs.RunLemmas.{printed_answers}
use Rattle.picky_policy.proofs.answer.answer_offer.Goals as goal

pub returns-in-Deciding-clause-answers : goal.returns-in-Deciding-clause-answers
returns-in-Deciding-clause-answers g c =
    subst (λ k. AnswersOffer (g.V.Verifier.verifies c.args.verifier.now) (asked_by k) c.args.file.now c.args.offer.now
    (Rose (g.V.Verifier.faults c.args.verifier.now) (g.V.Verifier.faults c.decided.new.verifier)) (map_ok answer_shown c.decided.result))
    (sym c.in-Deciding.is) c.decided.ensures.answers

pub returns-in-Deciding-clause-unasked : goal.returns-in-Deciding-clause-unasked
returns-in-Deciding-clause-unasked g c = λ none.
    c.decided.ensures.unasked (subst (λ k. is_asked (asked_by k) c.args.file.now c.args.offer.now ≡ false) c.in-Deciding.is none)

pub returns-in-Printing-clause-answers : goal.returns-in-Printing-clause-answers
returns-in-Printing-clause-answers g c =
    let verifies = g.V.Verifier.verifies c.args.verifier.now in
    let rose = Rose (g.V.Verifier.faults c.args.verifier.now) (g.V.Verifier.faults c.args.verifier.now) in
    subst (λ k. AnswersOffer verifies (asked_by k) c.args.file.now c.args.offer.now rose (map_ok answer_shown c.printed.result))
    (sym c.in-Printing.is)
    (printed_answers verifies c.args.file.now c.args.offer.now rose c.printed.result c.printed.ensures.line c.printed.ensures.want)
