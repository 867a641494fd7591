-- Text by text.
use Rattle.picky_inventory_texts.proofs.InventoryLemmas.{inventory_of_parts}
use Rattle.picky_inventory_texts.proofs.laws.inventory_is_that_of_the_parts.Goals as goal

pub returns : goal.returns
returns c = inventory_of_parts
