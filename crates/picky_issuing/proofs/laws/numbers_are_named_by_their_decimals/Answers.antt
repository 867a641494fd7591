use Rattle.picky_issuing.proofs.NumberLaws.{number_is_its_decimal}
use Rattle.picky_issuing.proofs.laws.numbers_are_named_by_their_decimals.Goals as goal

pub returns : goal.returns
returns c = number_is_its_decimal
