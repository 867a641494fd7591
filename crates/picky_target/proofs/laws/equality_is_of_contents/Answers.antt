-- A refusal's contents one by one.
use Rattle.picky_target.proofs.EqualityLaws.{convert_equal}
use Rattle.picky_target.proofs.laws.equality_is_of_contents.Goals as goal

pub returns-clause-error : goal.returns-clause-error
returns-clause-error c = convert_equal
