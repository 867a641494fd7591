-- What is read or shown is a listed key, and listed keys are told apart by their lines.
use Rattle.picky_inventory_texts.proofs.InventoryLemmas.{inventory_of_its_set, listed_are_inventory, texts_are_listed}
use Rattle.picky_inventory_texts.proofs.laws.inventory_is_of_its_set.Goals as goal

pub returns : goal.returns
returns c = record {
  items = λ sealed texts listed is. texts_are_listed sealed 0 texts listed is;
  inventory = listed_are_inventory;
  exactly = inventory_of_its_set;
}
