-- The message that locks.
use Rattle.std.proofs.Common.{◌+◌, length, refl, arith}
use Rattle.picky_agent_bytes.proofs.WriteLemmas.{length-locking, lock_bytes}
use Rattle.picky_agent_bytes.proofs.write.push_lock.Goals as goal

pub returns-then-pass-clause-too_long_only_if_long : goal.returns-then-pass-clause-too_long_only_if_long
returns-then-pass-clause-too_long_only_if_long c = λ _. omega (arith, c.if-pass.true, length-locking c.args.pass.now)

pub returns-in-Ok-clause-ok : goal.returns-in-Ok-clause-ok
returns-in-Ok-clause-ok c =
    lock_bytes c.args.pass.now c.args.out.now.items c.uint32.result c.byte.result c.string.result c.push_pieces.new.out.items
    (length c.args.pass.now + 5) c.uint32.ensures c.byte.ensures c.string.ensures.string c.in-Ok.ensures refl
