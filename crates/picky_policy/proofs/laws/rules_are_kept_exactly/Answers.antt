-- No rule fails where each is kept.
use Rattle.picky_policy.proofs.RuleLaws.{rules_are, rules_say}
use Rattle.picky_policy.proofs.laws.rules_are_kept_exactly.Goals as goal

pub returns : goal.returns
returns c = λ options c user moment d. (rules_say options c user moment d, rules_are options c user moment d)
