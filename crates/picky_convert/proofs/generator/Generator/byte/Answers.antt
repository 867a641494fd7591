-- The sum wraps as the whole does.
use Rattle.std.proofs.Common.{arith}
use Rattle.picky_convert.specs.Generator.{byte_of, next}
use Rattle.picky_convert.proofs.generator.Generator.byte.Goals as goal

pub returns-clause-state : goal.returns-clause-state
unfolding next
returns-clause-state c = omega arith

pub returns-clause-byte : goal.returns-clause-byte
unfolding byte_of next
returns-clause-byte c = omega arith
