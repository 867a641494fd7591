-- An item's line passes, and what passes is one.
use Rattle.picky_inventory.proofs.ItemLineLaws.{item_line_is}
use Rattle.picky_inventory.proofs.laws.line_is_of_an_item_exactly.Goals as goal

pub returns : goal.returns
returns c = item_line_is
