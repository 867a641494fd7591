-- One set has one text, and one text is of one set.
use Rattle.picky_inventory.proofs.TextLaws.{text_of_set, text_is_of_its_set}
use Rattle.picky_inventory.proofs.laws.text_is_of_its_set.Goals as goal

pub returns : goal.returns
returns g c = record { one = text_of_set; exactly = text_is_of_its_set }
