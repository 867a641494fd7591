use Rattle.std.proofs.Common.{◌∙◌, sym, arith}
use Rattle.picky_ask.specs.Lookup.{question}
use Rattle.picky_ask.specs.inner.HeadView.{head_seen}
use Rattle.picky_ask.proofs.LookupLemmas.{place_goes_on, place_ends, place_none}
use Rattle.picky_ask.proofs.lookup.place_in.Goals as goal

pub returns-then-is_same : goal.returns-then-is_same
returns-then-is_same c =
    let here = place_ends (question (head_seen c.args.head.now) c.args.text.now) c.args.entries.now c.loop-place.place
    c.index-entries-place.result c.loop-place-test.true c.index-entries-place.is (sym c.is_same.ensures ∙ c.if-is_same.true) in
    omega (arith, c.loop-place.invariant, here)

pub loop-place-preserved : goal.loop-place-preserved
loop-place-preserved c =
    let on = place_goes_on (question (head_seen c.args.head.now) c.args.text.now) c.args.entries.now c.loop-place.place
    c.index-entries-place.result c.loop-place-test.true c.index-entries-place.is (sym c.is_same.ensures ∙ c.if-is_same.false) in
    omega (arith, c.loop-place.invariant, on)

pub returns : goal.returns
returns c =
    let none = place_none (question (head_seen c.args.head.now) c.args.text.now) c.args.entries.now c.loop-place.place
    c.loop-place-test.false in
    omega (arith, c.loop-place.invariant, none, c.loop-place.auto.place-end)
