-- The issuer's key is seen inside its string.
use Rattle.picky_cert_blob.proofs.IssuerLemmas.{issuer_seen, issuer_stuck}
use Rattle.picky_cert_blob.proofs.grants.issuer_at.Goals as goal

pub returns-in-Ok : goal.returns-in-Ok
returns-in-Ok c =
    issuer_seen c.args.blob.now c.split_at.result.0.now c.args.from c.in_ok-block.next c.in-Ok.field-0-1 c.in_ok-block.block c.in-Ok.key
    c.in_ok-block.ensures c.split_at.ensures.front c.in-Ok.ensures

pub returns-in-Err : goal.returns-in-Err
returns-in-Err c =
    issuer_stuck c.args.blob.now c.split_at.result.0.now c.args.from c.in_ok-block.next c.in_ok-block.block c.in-Err.stuck
    c.in_ok-block.ensures c.split_at.ensures.front c.in-Err.ensures
