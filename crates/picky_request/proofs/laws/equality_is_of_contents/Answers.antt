-- The fields of a request, one by one.
use Rattle.picky_request.proofs.EqualityLemmas.{requests_equal}
use Rattle.picky_request.proofs.laws.equality_is_of_contents.Goals as goal

pub returns : goal.returns
returns c = requests_equal
