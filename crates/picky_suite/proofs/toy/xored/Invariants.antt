-- The bytes before the index are xored, and those from it on are the block's.
use Rattle.std.proofs.Common.{◌≡◌, ◌++◌, take, drop}
use Rattle.picky_suite.specs.Toy.{xored}
use Rattle.picky_suite.proofs.toy.xored.Given as goal

abbrev pub invariant-loop-i : goal.invariant-loop-i
invariant-loop-i l = l.byte-items ≡ xored (take l.i l.block) l.mask ++ drop l.i l.block
