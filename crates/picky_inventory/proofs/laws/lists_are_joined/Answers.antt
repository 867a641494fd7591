-- The items of lists joined.
use Rattle.picky_inventory.proofs.WrittenLaws.{items_joined}
use Rattle.picky_inventory.proofs.laws.lists_are_joined.Goals as goal

pub returns : goal.returns
returns c = λ r one other xs ys first second. items_joined r 0 0 one other xs ys first second
