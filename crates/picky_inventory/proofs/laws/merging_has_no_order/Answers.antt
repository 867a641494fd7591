-- Merging is of the sets of lines.
use Rattle.picky_inventory.proofs.TextLaws.{merged_either_way, merged_in_any_order, merged_sorted, merged_with_itself}
use Rattle.picky_inventory.proofs.laws.merging_has_no_order.Goals as goal

pub returns : goal.returns
returns c = record {
  either_way = merged_either_way;
  any_order = merged_in_any_order;
  itself = merged_with_itself;
  sorted = merged_sorted;
}
