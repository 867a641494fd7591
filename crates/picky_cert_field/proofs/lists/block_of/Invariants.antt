-- The spellings of the items so far.
use Rattle.std.proofs.Common.{◌≡◌, take}
use Rattle.std.specs.List.{flat_map}
use Rattle.picky_cert_field.proofs.lists.block_of.Given as goal

abbrev pub invariant-items : goal.invariant-items
invariant-items g l = l.block.items ≡ flat_map g.T.Listed.spelled (take l.item-index l.items)
