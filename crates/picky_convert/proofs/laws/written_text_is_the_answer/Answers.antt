-- The lemmas on what is written, and on the commands that words name.
use Rattle.picky_convert.proofs.CommandLemmas.{named_fits}
use Rattle.picky_convert.proofs.RunLemmas.{outcome_answers}
use Rattle.picky_convert.proofs.laws.written_text_is_the_answer.Goals as goal

pub returns : goal.returns
returns g c = λ device o words command input text given named wrote.
    outcome_answers (g.G.Signer.signs device) o command input text given (named_fits words command named) wrote
