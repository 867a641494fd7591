-- No signature is known to be good.
use Rattle.picky_ask_verifier.specs.Verdicts.{nothing_good}
use Rattle.picky_policy_tests.proofs.login.comes_to.Given as goal

abbrev pub ghost-decide_login : goal.ghost-decide_login
ghost-decide_login a = nothing_good
