-- What is read is nothing, for which there is a text.
use Rattle.std.proofs.Common.{◌∙◌, ap}
use Rattle.picky_convert.specs.Run.{outcome, outcome_asks}
use Rattle.picky_convert.proofs.SourceLemmas.{asks_nothing, comes_to, read_nothing}
use Rattle.picky_convert.proofs.laws.what_reads_nothing_is_answered.Goals as goal

pub returns : goal.returns
returns c = record {
  text = λ o command left none.
      let comes = comes_to o command none in
      (comes.0, ap (λ bytes. outcome o command bytes) (read_nothing command left none) ∙ comes.1);
  unasked = λ o command left none.
      ap (λ bytes. outcome_asks o command bytes) (read_nothing command left none) ∙ asks_nothing o command none;
}
