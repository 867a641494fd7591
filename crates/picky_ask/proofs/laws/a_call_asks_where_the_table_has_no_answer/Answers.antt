use Rattle.picky_ask.proofs.TableLaws.{derivation_asked, derivation_asked_so, exchange_asked, exchange_asked_so}
use Rattle.picky_ask.proofs.laws.a_call_asks_where_the_table_has_no_answer.Goals as goal

pub returns : goal.returns
returns c = record {
  derived = derivation_asked;
  derived_only = derivation_asked_so;
  exchanged = exchange_asked;
  exchanged_only = exchange_asked_so;
}
