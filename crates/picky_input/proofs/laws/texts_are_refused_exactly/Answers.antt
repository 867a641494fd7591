use Rattle.picky_input.proofs.TextLaws.{no_text_exactly, too_long_exactly}
use Rattle.picky_input.proofs.laws.texts_are_refused_exactly.Goals as goal

pub returns-clause-too_long : goal.returns-clause-too_long
returns-clause-too_long c = too_long_exactly

pub returns-clause-not_utf8 : goal.returns-clause-not_utf8
returns-clause-not_utf8 c = no_text_exactly
