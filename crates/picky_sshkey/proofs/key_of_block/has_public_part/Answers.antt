use Rattle.std.proofs.Common.{rules}
use Rattle.picky_sshkey_blob.specs.View.{private_key_seen}
use Rattle.picky_sshkey.proofs.PublicLaws.{says_public_none, says_public_seen}
use Rattle.picky_sshkey.proofs.key_of_block.has_public_part.Goals as goal

pub returns-in-Ok : goal.returns-in-Ok
returns-in-Ok c =
    says_public_seen c.args.outer.now (private_key_seen c.args.key.now) c.in-Ok.said c.in-Ok.field-0-1 c.is_public_part_of.result
    (search rules) c.requires.key c.in-Ok.ensures.seen c.is_public_part_of.ensures.same c.is_public_part_of.ensures.other

pub returns-in-Err : goal.returns-in-Err
returns-in-Err c = says_public_none c.args.outer.now (private_key_seen c.args.key.now) c.in-Err.field-0 c.in-Err.ensures.seen
