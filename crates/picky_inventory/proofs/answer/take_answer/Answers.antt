-- The answer to the source's text, or why there is no text.
use Rattle.std.proofs.Common.{◌∙◌, Err, Ok, ap, inl, inr, rules, sym}
use Rattle.std.specs.Option.{option_copied}
use Rattle.picky_wire_base.specs.Outcome.{map_ok}
use Rattle.picky_inventory.specs.Run.{reader}
use Rattle.picky_input.proofs.TextLaws.{some_input}
use Rattle.picky_inventory.proofs.RunLemmas.{source_comes, spares_text, text_comes, text_extent}
use Rattle.picky_inventory.proofs.answer.take_answer.Goals as goal

pub returns-in-Ok-clause-told : goal.returns-in-Ok-clause-told
returns-in-Ok-clause-told g c = λ told.
    text_comes (reader (g.S.Suite.meanings c.args.suite.now) c.args.pass) c.args.command (g.I.Source.left c.args.source.now)
    c.as_str.result.now _ _ (map_ok (λ text. text.items) c.answer_to-answer.result)
    (c.in-Ok.ensures.takes.reads told ∙ ap Ok (sym c.as_str.ensures.bytes)) c.answer_to-answer.ensures.gives

pub returns-in-Ok-clause-some : goal.returns-in-Ok-clause-some
returns-in-Ok-clause-some g c = (
  c.in-Ok.text,
  text_comes (reader (g.S.Suite.meanings c.args.suite.now) c.args.pass) c.args.command c.in-Ok.text
      c.as_str.result.now _ _ (map_ok (λ text. text.items) c.answer_to-answer.result)
      (c.in-Ok.ensures.takes.some ∙ ap Ok (sym c.as_str.ensures.bytes)) c.answer_to-answer.ensures.gives,
)

pub returns-in-Ok-clause-source : goal.returns-in-Ok-clause-source
returns-in-Ok-clause-source g c =
    elim (text_extent (reader (g.S.Suite.meanings c.args.suite.now) c.args.pass) c.args.command c.as_str.result.now _
    (map_ok (λ text. text.items) c.answer_to-answer.result) c.answer_to-answer.ensures.gives) [
      | inl end ↦ rw end (search rules)
      | inr any ↦ rw any (search rules)
    ]

pub returns-in-Ok-clause-suite : goal.returns-in-Ok-clause-suite
returns-in-Ok-clause-suite g c = record {
  kept = c.answer_to-answer.ensures.suite.kept;
  calm = c.answer_to-answer.ensures.suite.calm;
  unasked = λ spared. c.answer_to-answer.ensures.suite.unasked
      (spares_text c.args.command (option_copied c.args.pass) _ (g.I.Source.left c.args.source.now) c.as_str.result.now
      (λ told. c.in-Ok.ensures.takes.reads told ∙ ap Ok (sym c.as_str.ensures.bytes)) spared);
}

pub returns-in-Err-clause-told : goal.returns-in-Err-clause-told
returns-in-Err-clause-told g c = λ told.
    source_comes (reader (g.S.Suite.meanings c.args.suite.now) c.args.pass) c.args.command (g.I.Source.left c.args.source.now)
    _ _ c.in-Err.e c.source_status.result c.source_status.ensures (c.in-Err.ensures.takes.reads told)
    (λ is. c.in-Err.ensures.takes.fault (ap Err is))

pub returns-in-Err-clause-some : goal.returns-in-Err-clause-some
returns-in-Err-clause-some g c =
    let some = some_input c.in-Err.e in (
      some.0,
      source_comes (reader (g.S.Suite.meanings c.args.suite.now) c.args.pass) c.args.command some.0
          _ _ c.in-Err.e c.source_status.result c.source_status.ensures some.1 (λ is. c.in-Err.ensures.takes.fault (ap Err is)),
    )
