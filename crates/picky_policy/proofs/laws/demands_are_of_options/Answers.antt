-- What is demanded is what the options say.
use Rattle.picky_policy.proofs.DemandLaws.{demands_are, demands_say}
use Rattle.picky_policy.proofs.laws.demands_are_of_options.Goals as goal

pub returns : goal.returns
returns c = λ options d. (demands_say options d, demands_are options d)
