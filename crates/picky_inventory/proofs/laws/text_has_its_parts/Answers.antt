-- The parts, with a mark and without one.
use Rattle.picky_inventory.proofs.PartsLaws.{parts_where_cut, parts_where_uncut}
use Rattle.picky_inventory.proofs.laws.text_has_its_parts.Goals as goal

pub returns : goal.returns
returns c = record { marked = parts_where_cut; unmarked = parts_where_uncut }
