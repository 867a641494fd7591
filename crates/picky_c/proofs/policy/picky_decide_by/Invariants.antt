-- The caller's test.
use Rattle.picky_c.proofs.policy.picky_decide_by.Given as goal

abbrev pub ghost-decide_login : goal.ghost-decide_login
ghost-decide_login g a = g.test
