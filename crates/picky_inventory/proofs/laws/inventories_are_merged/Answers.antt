-- No line of them is bad, and their lists are joined.
use Rattle.picky_inventory.proofs.MergingLaws.{inventories_merged}
use Rattle.picky_inventory.proofs.laws.inventories_are_merged.Goals as goal

pub returns : goal.returns
returns c = inventories_merged
