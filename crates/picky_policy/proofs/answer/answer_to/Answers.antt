-- The offer is that of the second part, over the authorized keys of the first.
use Rattle.std.proofs.Common.{◌≡◌, ◌⊎◌, ◌∙◌, Err, Ok, ap, subst, sym}
use Rattle.picky_wire_base.specs.Outcome.{map_err, map_ok}
use Rattle.picky_policy.specs.Command.{asked_by}
use Rattle.picky_policy.specs.Offer.{offer_in}
use Rattle.picky_policy.specs.Run.{bad_offer, file_or_none, file_part, offered_in}
use Rattle.picky_policy.specs.declared.status.PolicyStatus.TheVariants as statuses
use Rattle.picky_policy.specs.inner.Comes.{answer_shown}
use Rattle.picky_policy.proofs.RunLemmas.{none_answers, not_asked, offer_answers}
use Rattle.picky_policy.proofs.answer.answer_to.Goals as goal

pub returns-in-Ok-clause-answers : goal.returns-in-Ok-clause-answers
returns-in-Ok-clause-answers g c =
    let is : offered_in c.args.text.now ≡ Ok c.in-Ok.offer =
    sym (ap (λ k. map_err bad_offer (offer_in k)) c.parts_of-cut.ensures.key) ∙ c.in-Ok.ensures in
    let file : c.file_of.result.now ≡ file_part c.args.text.now = c.file_of.ensures ∙ ap file_or_none c.parts_of-cut.ensures.issuer in
    offer_answers (g.V.Verifier.verifies c.args.verifier.now) (asked_by c.args.command) c.args.text.now c.file_of.result.now
    c.in-Ok.offer _ (map_ok answer_shown c.answer_offer-answer.result) is file c.answer_offer-answer.ensures.answers

pub returns-in-Ok-clause-unasked : goal.returns-in-Ok-clause-unasked
returns-in-Ok-clause-unasked g c = λ none.
    let is : offered_in c.args.text.now ≡ Ok c.in-Ok.offer =
    sym (ap (λ k. map_err bad_offer (offer_in k)) c.parts_of-cut.ensures.key) ∙ c.in-Ok.ensures in
    let file : c.file_of.result.now ≡ file_part c.args.text.now = c.file_of.ensures ∙ ap file_or_none c.parts_of-cut.ensures.issuer in
    c.answer_offer-answer.ensures.unasked
    (not_asked (asked_by c.args.command) c.args.text.now c.file_of.result.now c.in-Ok.offer is file none)

pub returns-in-Err-clause-answers : goal.returns-in-Err-clause-answers
returns-in-Err-clause-answers g c =
    none_answers (g.V.Verifier.verifies c.args.verifier.now) (asked_by c.args.command) c.args.text.now _ c.in-Err.status
    (subst (λ k. (c.in-Err.status ≡ statuses.NoMemory) ⊎ (map_err bad_offer (offer_in k) ≡ Err c.in-Err.status))
    c.parts_of-cut.ensures.key c.in-Err.ensures)
