-- The two sides of the mark.
use Rattle.picky_inventory.proofs.WrittenLaws.{left_is_cut, right_is_cut}
use Rattle.picky_inventory.proofs.laws.inventory_has_no_mark.Goals as goal

pub returns-clause-left : goal.returns-clause-left
returns-clause-left c = left_is_cut

pub returns-clause-right : goal.returns-clause-right
returns-clause-right c = right_is_cut
