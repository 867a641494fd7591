-- The words are those of picky_inventory, but for one.
use Rattle.std.proofs.Common.{refl}
use Rattle.picky_inventory_texts.proofs.LineLemmas.{sealed_is_no_item}
use Rattle.picky_inventory_texts.proofs.laws.lines_are_those_of_inventories.Goals as goal

pub returns : goal.returns
returns c = record { read = λ item. refl; sealed = sealed_is_no_item }
