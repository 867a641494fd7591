-- A listed key's line passes, what passes is one, and it is of no other.
use Rattle.picky_inventory_texts.proofs.LineLemmas.{listed_is_line, listed_line_is, one_listed}
use Rattle.picky_inventory_texts.proofs.laws.line_is_of_one_listed_key.Goals as goal

pub returns : goal.returns
returns c = record { exactly = listed_line_is; whole = listed_is_line; one = one_listed }
