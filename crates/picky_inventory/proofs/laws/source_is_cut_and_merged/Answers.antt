-- By the parts of the source.
use Rattle.picky_inventory.proofs.MergingLaws.{merged_where_cut, merged_where_uncut}
use Rattle.picky_inventory.proofs.laws.source_is_cut_and_merged.Goals as goal

pub returns : goal.returns
returns c = record { marked = merged_where_cut; unmarked = merged_where_uncut }
