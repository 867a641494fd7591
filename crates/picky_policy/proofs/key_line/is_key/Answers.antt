-- The comparison is of what the keys are written as.
use Rattle.picky_policy.proofs.KeyLemmas.{says_key}
use Rattle.picky_policy.proofs.key_line.is_key.Goals as goal

pub returns : goal.returns
returns c =
    says_key c.args.key.now c.args.other.now c.is_same.result c.key_keeps.ensures c.key_keeps-2.ensures c.is_same.ensures.same
    c.is_same.ensures.other
