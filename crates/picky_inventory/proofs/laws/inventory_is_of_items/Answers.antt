-- By the items of its lines.
use Rattle.picky_inventory.proofs.BadLineLaws.{inventory_has_items, items_are_inventory}
use Rattle.picky_inventory.proofs.laws.inventory_is_of_items.Goals as goal

pub returns : goal.returns
returns c = record { items = inventory_has_items; inventory = items_are_inventory }
