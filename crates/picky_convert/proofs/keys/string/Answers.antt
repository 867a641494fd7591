-- What is drawn is short.
use Rattle.std.proofs.Common.{ap, arith, length}
use Rattle.picky_convert.proofs.GeneratorLemmas.{length-drawn}
use Rattle.picky_convert.proofs.keys.string.Goals as goal

pub from_vec-requires : goal.from_vec-requires
from_vec-requires c =
    let bytes = c.in_ok-bytes.bytes in
    omega (arith, c.requires, ap length c.in_ok-bytes.ensures.bytes, length-drawn c.args.len c.args.source.now.state, bytes.ok.0)
