-- The line that is found is the first.
use Rattle.picky_policy.proofs.KeyLemmas.{line_found, line_is}
use Rattle.picky_policy.proofs.laws.line_is_the_first.Goals as goal

pub returns : goal.returns
returns c = λ authority key entries line. (line_found authority key entries line, line_is authority key entries line)
