-- The lemma on a number's bits.
use Rattle.picky_shown.proofs.BitsLemmas.{bits_of_number}
use Rattle.picky_shown.proofs.laws.bits_are_the_numbers.Goals as goal

pub returns : goal.returns
returns c = bits_of_number
