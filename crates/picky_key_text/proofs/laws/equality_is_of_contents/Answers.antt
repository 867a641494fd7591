-- A refusal's contents, layer by layer.
use Rattle.picky_key_text.proofs.EqualityLaws.{read_equal}
use Rattle.picky_key_text.proofs.laws.equality_is_of_contents.Goals as goal

pub returns-clause-error : goal.returns-clause-error
returns-clause-error c = read_equal
