-- A message takes at least the bytes of its length.
use Rattle.std.proofs.Common.{length, drop, ap, arith}
use Rattle.picky_wire_base.specs.Wire.{string}
use Rattle.picky_wire_base.proofs.Solid.{read_shortens, string_solid}
use Rattle.picky_agent_bytes.proofs.read.message_in.Goals as goal

pub returns-in-Ok-clause-shorter : goal.returns-in-Ok-clause-shorter
returns-in-Ok-clause-shorter c =
    let bytes = c.args.bytes.now in
    let shorter = read_shortens string string_solid bytes c.in-Ok.message.bytes.now (drop c.in-Ok.next bytes) c.in-Ok.ensures.sees in
    omega (arith, ap length c.split_at.ensures.back, shorter)
