-- The answer to the source's text, or why there is no text.
use Rattle.std.proofs.Common.{◌∙◌, Err, Ok, ap, inl, inr, rules, sym}
use Rattle.picky_wire_base.specs.Outcome.{map_ok}
use Rattle.picky_policy.specs.Command.{asked_by}
use Rattle.picky_policy.specs.inner.Comes.{answer_shown}
use Rattle.picky_policy.proofs.RunLemmas.{some_comes, source_comes, spared_by_text, text_comes, text_extent}
use Rattle.picky_policy.proofs.answer.take_answer.Goals as goal

pub returns-in-Ok-clause-comes : goal.returns-in-Ok-clause-comes
returns-in-Ok-clause-comes g c = λ told.
    text_comes (g.V.Verifier.verifies c.args.verifier.now) (asked_by c.args.command) (g.I.Source.left c.args.source.now)
    c.as_str.result.now _ _ (map_ok answer_shown c.answer_to-answer.result)
    (c.in-Ok.ensures.takes.reads told ∙ ap Ok (sym c.as_str.ensures.bytes)) c.answer_to-answer.ensures.answers

pub returns-in-Ok-clause-comes_for_some : goal.returns-in-Ok-clause-comes_for_some
returns-in-Ok-clause-comes_for_some g c = (
  c.in-Ok.text,
  text_comes (g.V.Verifier.verifies c.args.verifier.now) (asked_by c.args.command) c.in-Ok.text
      c.as_str.result.now _ _ (map_ok answer_shown c.answer_to-answer.result)
      (c.in-Ok.ensures.takes.some ∙ ap Ok (sym c.as_str.ensures.bytes)) c.answer_to-answer.ensures.answers,
)

pub returns-in-Err-clause-comes : goal.returns-in-Err-clause-comes
returns-in-Err-clause-comes g c = λ told.
    source_comes (g.V.Verifier.verifies c.args.verifier.now) (asked_by c.args.command) (g.I.Source.left c.args.source.now)
    _ _ c.in-Err.e c.source_status.result c.source_status.ensures (c.in-Err.ensures.takes.reads told)
    (λ is. c.in-Err.ensures.takes.fault (ap Err is))

pub returns-in-Err-clause-comes_for_some : goal.returns-in-Err-clause-comes_for_some
returns-in-Err-clause-comes_for_some g c =
    some_comes (g.V.Verifier.verifies c.args.verifier.now) (asked_by c.args.command) _ _ c.in-Err.e c.source_status.result
    c.source_status.ensures (λ is. c.in-Err.ensures.takes.fault (ap Err is))

pub returns-in-Ok-clause-source : goal.returns-in-Ok-clause-source
returns-in-Ok-clause-source g c =
    elim (text_extent (g.V.Verifier.verifies c.args.verifier.now) (asked_by c.args.command) c.as_str.result.now _
    c.answer_to-answer.result c.answer_to-answer.ensures.answers) [
      | inl end ↦ rw end (search (rules, c.in-Ok.ensures.takes))
      | inr any ↦ rw any (search (rules, c.in-Ok.ensures.takes))
    ]

pub returns-in-Ok-clause-verifier : goal.returns-in-Ok-clause-verifier
returns-in-Ok-clause-verifier g c = record {
  kept = c.answer_to-answer.ensures.kept;
  calm = c.answer_to-answer.ensures.calm;
  unasked = λ spared. c.answer_to-answer.ensures.unasked
      (spared_by_text (asked_by c.args.command) _ (g.I.Source.left c.args.source.now) c.as_str.result.now
      (λ told. c.in-Ok.ensures.takes.reads told ∙ ap Ok (sym c.as_str.ensures.bytes)) spared);
}
