-- A number has no more bytes without its zeros, so it is short.
use Rattle.picky_convert.proofs.PartLemmas.{too_long}
use Rattle.picky_convert.proofs.keys.without_zeros.Goals as goal

pub unreachable-requires : goal.unreachable-requires
unreachable-requires c =
    too_long c.from_vec.result c.in-Err.field-0 c.args.bytes.items c.in-Err.is c.from_vec.ensures.no_other c.from_vec.ensures.too_long
    c.requires
