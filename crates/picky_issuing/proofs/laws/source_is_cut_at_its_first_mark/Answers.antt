-- What is cut, and what is as it is cut.
use Rattle.picky_issuing.proofs.PartsLaws.{cut_both_ways}
use Rattle.picky_issuing.proofs.laws.source_is_cut_at_its_first_mark.Goals as goal

pub returns : goal.returns
returns c = cut_both_ways
