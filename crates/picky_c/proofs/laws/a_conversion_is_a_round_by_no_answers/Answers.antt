-- The clause is a lemma.
use Rattle.std.proofs.Common.{subst, sym}
use Rattle.picky_c.specs.Round.{IsWithoutAnswers}
use Rattle.picky_c.proofs.RoundLemmas.{conversion_gives, seen_as_it_is}
use Rattle.picky_c.proofs.laws.a_conversion_is_a_round_by_no_answers.Goals as goal

pub returns : goal.returns
returns c = λ m to g round result numbered none gives is.
    conversion_gives (λ bytes. bytes) m to g round result numbered none gives
    (subst (IsWithoutAnswers round) (sym (seen_as_it_is result)) is)
