-- The bytes before the index are xored, and those from it on are the block's.
use Rattle.std.proofs.Common.{◌≡◌, ◌++◌, take, drop}
use Rattle.picky_suite.specs.Hmac.{xored_block}
use Rattle.picky_suite.proofs.hmac.xored_block.Given as goal

abbrev pub invariant-loop-byte : goal.invariant-loop-byte
invariant-loop-byte l =
    l.byte-items ≡ xored_block (take l.byte-index l.block) l.pad ++ drop l.byte-index l.block
