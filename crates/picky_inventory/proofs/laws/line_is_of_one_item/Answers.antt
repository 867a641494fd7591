-- An item's line, by its spaces and its LF.
use Rattle.picky_inventory.proofs.ItemLaws.{item_is_line, one_item}
use Rattle.picky_inventory.proofs.laws.line_is_of_one_item.Goals as goal

pub returns : goal.returns
returns c = record { line = item_is_line; one = one_item }
