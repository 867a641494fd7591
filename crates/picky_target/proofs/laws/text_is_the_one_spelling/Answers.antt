use Rattle.picky_target.proofs.TextLaws.{text_spells, text_only}
use Rattle.picky_target.proofs.laws.text_is_the_one_spelling.Goals as goal

pub returns-clause-spells : goal.returns-clause-spells
returns-clause-spells c = text_spells

pub returns-clause-one : goal.returns-clause-one
returns-clause-one c = text_only
