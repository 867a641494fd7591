use Rattle.std.proofs.Common.{◌/◌, List, ℕ, length, ◌∙◌, ap, arith}
use Rattle.picky_suite.specs.Toy.{xored, toy_open}
use Rattle.picky_suite.specs.carried.ToyCipher.{length-xored}
use Rattle.picky_suite.proofs.ToyLemmas.{open_step, opened_all}
use Rattle.picky_suite.proofs.toy.open_text.Goals as goal

pub loop-i-preserved : goal.loop-i-preserved
loop-i-preserved c =
    let sealed = c.open_at-before.result in
    let turned : List ℕ = xored sealed c.block_at-mask.result in
    let opened : List ℕ = xored turned c.loop-i.before in
    open_step (length c.args.text.now / 16) c.loop-i.i c.args.key.now c.loop-i.before c.loop-i.text
    sealed opened c.open_at-before.new.text (omega arith) (omega arith)
    (omega (arith, length-xored turned c.loop-i.before, length-xored sealed c.block_at-mask.result))
    c.open_at-before.ensures.sealed
    (ap (λ m. xored (xored sealed m) c.loop-i.before) c.block_at-mask.ensures)
    c.open_at-before.ensures.placed
    ∙ c.loop-i.invariant

pub returns : goal.returns
unfolding toy_open
returns c =
    opened_all (length c.args.text.now / 16) c.loop-i.i c.args.key.now c.loop-i.before c.loop-i.text (omega arith)
    ∙ c.loop-i.invariant
