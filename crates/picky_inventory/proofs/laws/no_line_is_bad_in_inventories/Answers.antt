-- By what the test of a line says.
use Rattle.picky_inventory.proofs.BadLineLaws.{inventory_is_whole, no_bad_line}
use Rattle.picky_inventory.proofs.laws.no_line_is_bad_in_inventories.Goals as goal

pub returns : goal.returns
returns c = record { exactly = no_bad_line; whole = inventory_is_whole }
