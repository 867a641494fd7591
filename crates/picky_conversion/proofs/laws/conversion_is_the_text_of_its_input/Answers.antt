-- The lemmas on the text of a conversion.
use Rattle.picky_conversion.proofs.ConvertLemmas.{conversion_is, conversion_valid}
use Rattle.picky_conversion.proofs.laws.conversion_is_the_text_of_its_input.Goals as goal

pub returns-clause-text : goal.returns-clause-text
returns-clause-text c = conversion_is

pub returns-clause-valid : goal.returns-clause-valid
returns-clause-valid c = conversion_valid
