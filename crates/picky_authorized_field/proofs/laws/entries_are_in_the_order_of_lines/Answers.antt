use Rattle.picky_authorized_field.proofs.OrderLaws.{lines_ordered, lines_within}
use Rattle.picky_authorized_field.proofs.laws.entries_are_in_the_order_of_lines.Goals as goal

pub returns-clause-order : goal.returns-clause-order
returns-clause-order c = lines_ordered

pub returns-clause-within : goal.returns-clause-within
returns-clause-within c = lines_within
