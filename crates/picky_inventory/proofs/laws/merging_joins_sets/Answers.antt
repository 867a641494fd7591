-- The lines of two texts are those of the lists joined.
use Rattle.picky_inventory.proofs.TextLaws.{merged_texts}
use Rattle.picky_inventory.proofs.laws.merging_joins_sets.Goals as goal

pub returns : goal.returns
returns g c = merged_texts
