-- Parts are texts, and what is read of texts is items.
use Rattle.picky_inventory.proofs.ReadLaws.{parts_text, read_items}
use Rattle.picky_inventory.proofs.laws.parts_give_items.Goals as goal

pub returns : goal.returns
returns c = record { utf8 = parts_text; items = read_items }
