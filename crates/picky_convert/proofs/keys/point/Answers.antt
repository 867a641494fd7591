-- What is drawn is short, and one byte stands before it.
use Rattle.std.proofs.Common.{ap, arith, length}
use Rattle.std.proofs.lemmas.List.{length-append}
use Rattle.picky_convert.specs.Generator.{generated}
use Rattle.picky_convert.proofs.GeneratorLemmas.{length-drawn}
use Rattle.picky_convert.proofs.keys.point.Goals as goal

pub from_vec-requires : goal.from_vec-requires
from_vec-requires c =
    let len = c.args.len in
    let s = c.args.source.now.state in
    omega (
      arith,
      c.requires,
      c.append.new.bytes.ok.0,
      ap length c.in_ok-append.ensures.bytes,
      length-append c.in_ok-bytes.bytes.items (generated len s),
      ap length c.in_ok-bytes.ensures.items,
      length-drawn len s,
    )
