-- No signature is known to be good.
use Rattle.picky_ask_verifier.specs.Verdicts.{nothing_good}
use Rattle.picky_policy_tests.proofs.login.refuses_logins_of_bytes_that_are_no_text.Given as goal

abbrev pub ghost-decide_login : goal.ghost-decide_login
ghost-decide_login g a = nothing_good
