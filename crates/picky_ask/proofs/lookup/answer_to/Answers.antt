use Rattle.std.proofs.Common.{◌∙◌, ap, sym, arith}
use Rattle.std.specs.Prelude.{Some}
use Rattle.picky_ask.specs.Lookup.{question}
use Rattle.picky_ask.specs.inner.HeadView.{head_seen}
use Rattle.picky_ask.proofs.TurnLemmas.{answer_here, answer_past}
use Rattle.picky_ask.proofs.lookup.answer_to.Goals as goal

pub returns-then-place-entries : goal.returns-then-place-entries
returns-then-place-entries c =
    answer_here (question (head_seen c.args.head.now) c.args.text.now) c.args.entries.now c.place_in-place.result
    c.index-entries-place.result c.place_in-place.ensures c.if-place-entries.true
    ∙ ap Some (sym c.as_slice.ensures.bytes)

pub returns : goal.returns
returns c =
    answer_past (question (head_seen c.args.head.now) c.args.text.now) c.args.entries.now
    (omega (arith, c.place_in-place.ensures, c.if-place-entries.false))
