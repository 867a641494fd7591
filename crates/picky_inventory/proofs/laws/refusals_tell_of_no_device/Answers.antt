-- By the refusal of the part.
use Rattle.picky_inventory.proofs.RunLemmas.{inventory_own}
use Rattle.picky_inventory.proofs.laws.refusals_tell_of_no_device.Goals as goal

pub returns : goal.returns
returns c = λ r text n e is. let own = inventory_own r text n e is in (own.1, own.0)
