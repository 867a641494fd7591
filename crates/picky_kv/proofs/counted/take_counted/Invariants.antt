-- The lines so far and those that are left make the block.
use Rattle.picky_kv.specs.Joined.{joined_text}
use Rattle.picky_kv.proofs.BlockLemmas.{IsUnderWay}
use Rattle.picky_kv.proofs.counted.take_counted.Given as goal

abbrev pub invariant-lines : goal.invariant-lines
invariant-lines l = IsUnderWay l.count l.counter l.initial.lines (joined_text l.block) l.lines
