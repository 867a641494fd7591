-- The first line that is refused, and where there is none.
use Rattle.std.proofs.Common.{None}
use Rattle.picky_inventory.proofs.TextLaws.{first_is_bad, no_bad}
use Rattle.picky_inventory.proofs.laws.lines_are_refused_exactly.Goals as goal

pub returns : goal.returns
returns c = record { first = λ is_item n lines k. first_is_bad is_item n None lines k; none = no_bad }
