-- The items so far keep.
use Rattle.std.proofs.Common.{take}
use Rattle.std.specs.List.{All}
use Rattle.picky_cert.proofs.ranges.items_keep_their_ranges.Given as goal

abbrev pub invariant-items : goal.invariant-items
invariant-items g l = All g.T.SshComplexTypeEncode.keeps (take l.item-index l.items)
