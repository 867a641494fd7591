use Rattle.picky_ask.proofs.RefusalLaws.{derivation_wrong, exchange_clash}
use Rattle.picky_ask.proofs.TurnLemmas.{early_so}
use Rattle.picky_ask.proofs.laws.an_answer_is_refused_for_its_reason.Goals as goal

pub returns : goal.returns
returns c = record { length = derivation_wrong; contradiction = exchange_clash; misplaced = early_so }
