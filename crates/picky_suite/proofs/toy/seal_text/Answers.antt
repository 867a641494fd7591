use Rattle.std.proofs.Common.{◌*◌, ◌/◌, length, drop, ◌∙◌, ap, arith}
use Rattle.picky_suite.specs.Toy.{xored, first_block, toy_seal}
use Rattle.picky_suite.proofs.ToyLemmas.{seal_step, sealed_all}
use Rattle.picky_suite.proofs.toy.seal_text.Goals as goal

pub loop-i-preserved : goal.loop-i-preserved
loop-i-preserved c =
    let plain = first_block (drop (c.loop-i.i * 16) c.loop-i.text) in
    seal_step (length c.args.text.now / 16) c.loop-i.i c.args.key.now c.loop-i.before c.loop-i.text
    c.seal_at-before.result c.seal_at-before.new.text (omega arith) (omega arith) (omega arith)
    (c.seal_at-before.ensures.sealed ∙ ap (xored (xored plain c.loop-i.before)) c.block_at-mask.ensures)
    c.seal_at-before.ensures.placed
    ∙ c.loop-i.invariant

pub returns : goal.returns
unfolding toy_seal
returns c =
    sealed_all (length c.args.text.now / 16) c.loop-i.i c.args.key.now c.loop-i.before c.loop-i.text (omega arith)
    ∙ c.loop-i.invariant
