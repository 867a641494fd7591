-- The lines tell items apart.
use Rattle.picky_inventory.proofs.ItemLaws.{inventory_of_its_set}
use Rattle.picky_inventory.proofs.laws.inventory_is_of_its_set.Goals as goal

pub returns : goal.returns
returns c = inventory_of_its_set
