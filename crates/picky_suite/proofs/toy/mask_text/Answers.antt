use Rattle.std.proofs.Common.{◌+◌, ◌*◌, ◌/◌, ◌<◌, length, refl, sym, ◌∙◌, ap, arith}
use Rattle.picky_suite.specs.Toy.{xored, masks, toy_ctr}
use Rattle.picky_suite.proofs.ToyLemmas.{xored_more, xored_all, length-masks, get_or-masks}
use Rattle.picky_suite.proofs.toy.mask_text.Goals as goal

pub loop-i-preserved : goal.loop-i-preserved
loop-i-preserved c =
    let text = c.args.text.now in
    let mask = c.xored-mask.result in
    let n = (length text + 15) / 16 in
    let inside : c.loop-i.i < n * 16 = omega arith in
    xored_more text (masks n mask) c.loop-i.text c.loop-i.i _ _ (omega arith)
    (omega (arith, length-masks n mask (omega arith))) c.loop-i.invariant refl
    (sym (get_or-masks n mask c.loop-i.i (omega arith) inside))

pub returns : goal.returns
unfolding toy_ctr
returns c =
    let text = c.args.text.now in
    let n = (length text + 15) / 16 in
    xored_all text (masks n c.xored-mask.result) c.loop-i.text c.loop-i.i (omega arith) c.loop-i.invariant
    ∙ ap (λ m. xored text (masks n m)) (c.xored-mask.ensures ∙ ap (xored c.args.iv.now) c.block_at.ensures)
