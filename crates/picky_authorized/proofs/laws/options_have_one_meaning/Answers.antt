-- What a text says is what it is.
use Rattle.picky_authorized.proofs.OptionLaws.{option_is, option_says}
use Rattle.picky_authorized.proofs.OptionsLaws.{options_are, options_say}
use Rattle.picky_authorized.proofs.laws.options_have_one_meaning.Goals as goal

pub returns : goal.returns
returns c = record {
  option = λ text o. (option_says text o, option_is text o);
  options = λ text os. (options_say text os, options_are text os);
}
