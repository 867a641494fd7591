use Rattle.std.proofs.Common.{◌∙◌, ap, sym}
use Rattle.picky_ask.specs.Lookup.{is_side}
use Rattle.picky_ask.proofs.LookupLemmas.{first_goes_on, first_ends, first_none}
use Rattle.picky_ask.proofs.lookup.is_other.Goals as goal

pub loop-entry-preserved : goal.loop-entry-preserved
loop-entry-preserved c = c.loop-entry.invariant
    ∙ first_goes_on c.args.mode c.args.key.now c.args.iv.now c.args.text.now c.args.entries.now c.loop-entry.entry-index
    c.entry-item.result c.loop-entry-test.true c.entry-item.is c.in_default.ensures

pub returns-in-Some : goal.returns-in-Some
returns-in-Some c = c.eq.ensures
    ∙ ap (λ o. is_side o c.args.other.now) (sym (c.loop-entry.invariant
    ∙ first_ends c.args.mode c.args.key.now c.args.iv.now c.args.text.now c.in-Some.found.now c.args.entries.now
    c.loop-entry.entry-index c.entry-item.result c.loop-entry-test.true c.entry-item.is c.in-Some.ensures))

pub returns : goal.returns
returns c =
    ap (λ o. is_side o c.args.other.now) (sym (c.loop-entry.invariant
    ∙ first_none c.args.mode c.args.key.now c.args.iv.now c.args.text.now c.args.entries.now c.loop-entry.entry-index
    c.loop-entry-test.false))
