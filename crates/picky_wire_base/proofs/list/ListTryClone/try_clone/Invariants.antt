-- The copy so far is the items so far.
use Rattle.std.proofs.Common.{◌≡◌, take}
use Rattle.picky_wire_base.proofs.list.ListTryClone.try_clone.Given as goal

abbrev pub invariant-items : goal.invariant-items
invariant-items g l = l.copy ≡ take l.item-index l.items
