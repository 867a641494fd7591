-- The secret's string is that of the number.
use Rattle.std.proofs.Common.{arith}
use Rattle.picky_ppk_parts.proofs.EdLemmas.{ed_is_seen, ed_is_short}
use Rattle.picky_ppk_parts.proofs.secret.ed_at.Goals as goal

pub returns-else-number-gt-SECRET_LEN-clause-seen : goal.returns-else-number-gt-SECRET_LEN-clause-seen
returns-else-number-gt-SECRET_LEN-clause-seen c =
    ed_is_seen c.args.private.now c.in-Ok.number c.in-Ok.next c.in-Ok.ensures (omega arith)

pub returns-in-Err-clause-seen : goal.returns-in-Err-clause-seen
returns-in-Err-clause-seen c = ed_is_short c.args.private.now c.in-Err.stuck c.requires c.in-Err.ensures
