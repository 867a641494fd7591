-- A status's contents, layer by layer.
use Rattle.picky_convert.proofs.EqualityLemmas.{status_equal}
use Rattle.picky_convert.proofs.laws.equality_is_of_contents.Goals as goal

pub returns : goal.returns
returns c = record { status = status_equal }
