-- What is drawn is short.
use Rattle.std.proofs.Common.{ap, arith, length}
use Rattle.picky_convert.proofs.GeneratorLemmas.{length-drawn}
use Rattle.picky_convert.proofs.keys.number.Goals as goal

pub without_zeros-requires : goal.without_zeros-requires
without_zeros-requires c =
    omega (arith, c.requires, ap length c.in_ok-bytes.ensures.bytes, length-drawn c.args.len c.args.source.now.state)
