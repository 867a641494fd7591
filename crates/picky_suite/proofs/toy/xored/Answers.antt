use Rattle.std.proofs.Common.{refl, arith}
use Rattle.picky_suite.proofs.ToyLemmas.{xored_more}
use Rattle.picky_suite.proofs.toy.xored.Goals as goal

pub loop-i-preserved : goal.loop-i-preserved
loop-i-preserved c =
    xored_more c.args.block.now c.args.mask.now c.loop-i.byte-items c.loop-i.i _ _ (omega arith) (omega arith)
    c.loop-i.invariant refl refl
