use Rattle.picky_ask.proofs.TableLaws.{asked_once, answer_counts}
use Rattle.picky_ask.proofs.laws.no_question_comes_twice.Goals as goal

pub returns : goal.returns
returns c = record { once = asked_once; counts = answer_counts }
