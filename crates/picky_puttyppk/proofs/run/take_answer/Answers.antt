-- The text for PuTTY of the source's text, or why there is no text.
use Rattle.std.proofs.Common.{Err, Ok, ap, sym, ◌∙◌}
use Rattle.picky_input.proofs.TextLaws.{some_input}
use Rattle.picky_puttyppk.proofs.RunLemmas.{source_comes, text_comes}
use Rattle.picky_puttyppk.proofs.run.take_answer.Goals as goal

pub returns-in-Ok-clause-told : goal.returns-in-Ok-clause-told
returns-in-Ok-clause-told g c = λ told.
    text_comes (g.S.Suite.meanings c.args.suite.now) (g.I.Source.left c.args.source.now) c.as_str.result.now _
    c.text_for_putty-answer.result (c.in-Ok.ensures.takes.reads told ∙ ap Ok (sym c.as_str.ensures.bytes))
    c.text_for_putty-answer.ensures.gives c.text_for_putty-answer.ensures.means c.text_for_putty-answer.ensures.of_text

pub returns-in-Ok-clause-some : goal.returns-in-Ok-clause-some
returns-in-Ok-clause-some g c = (
  c.in-Ok.text,
  text_comes (g.S.Suite.meanings c.args.suite.now) c.in-Ok.text c.as_str.result.now _
      c.text_for_putty-answer.result (c.in-Ok.ensures.takes.some ∙ ap Ok (sym c.as_str.ensures.bytes))
      c.text_for_putty-answer.ensures.gives c.text_for_putty-answer.ensures.means c.text_for_putty-answer.ensures.of_text,
)

pub returns-in-Err-clause-told : goal.returns-in-Err-clause-told
returns-in-Err-clause-told g c = λ told.
    source_comes (g.S.Suite.meanings c.args.suite.now) (g.I.Source.left c.args.source.now) _ c.in-Err.e c.source_status.result
    c.source_status.ensures (c.in-Err.ensures.takes.reads told) (λ is. c.in-Err.ensures.takes.fault (ap Err is))

pub returns-in-Err-clause-some : goal.returns-in-Err-clause-some
returns-in-Err-clause-some g c =
    let some = some_input c.in-Err.e in (
      some.0,
      source_comes (g.S.Suite.meanings c.args.suite.now) some.0 _ c.in-Err.e c.source_status.result c.source_status.ensures
          some.1 (λ is. c.in-Err.ensures.takes.fault (ap Err is)),
    )
