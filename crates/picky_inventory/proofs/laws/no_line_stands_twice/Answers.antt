-- The lines of a text are in strict order.
use Rattle.picky_inventory.proofs.TextLaws.{text_sorted, text_once}
use Rattle.picky_inventory.proofs.laws.no_line_stands_twice.Goals as goal

pub returns : goal.returns
returns g c = record { sorted = text_sorted; once = text_once }
