-- The clause is a lemma.
use Rattle.picky_c.proofs.NamedLemmas.{refusal_named}
use Rattle.picky_c.proofs.laws.names_are_the_programs.Goals as goal

pub returns : goal.returns
returns c = refusal_named
