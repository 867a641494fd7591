-- Merging is of the sets of lines.
use Rattle.picky_inventory_texts.proofs.PieceLemmas.{inventories_merged, no_bad_line}
use Rattle.picky_inventory_texts.proofs.laws.inventories_are_merged.Goals as goal

pub returns : goal.returns
returns c = record { exactly = no_bad_line; joined = inventories_merged }
