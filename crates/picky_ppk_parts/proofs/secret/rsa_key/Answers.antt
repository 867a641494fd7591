-- The reason of the numbers is that of the private bytes.
use Rattle.std.proofs.Common.{inr, ap, sym, ◌∙◌, Err}
use Rattle.picky_wire_base.specs.View.{why_of}
use Rattle.picky_ppk_parts.proofs.SecretLemmas.{rsa_key_refused}
use Rattle.picky_ppk_parts.proofs.secret.rsa_key.Goals as goal

pub returns-in-Err : goal.returns-in-Err
returns-in-Err c =
    inr (rsa_key_refused c.args.e c.args.n c.args.private.now (why_of c.in-Err.stuck) c.in-Err.ensures.sees
    ∙ ap Err (sym c.private_bytes_refusal.ensures))
