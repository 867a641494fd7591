-- The message that adds the identity.
use Rattle.std.proofs.Common.{◌+◌}
use Rattle.picky_agent_bytes.proofs.WriteLemmas.{identity_bytes, is_as_long, is_long}
use Rattle.picky_agent_bytes.proofs.write.push_identity.Goals as goal

pub returns-then-len-clause-too_long_only_if_long : goal.returns-then-len-clause-too_long_only_if_long
returns-then-len-clause-too_long_only_if_long c = λ _.
    is_long c.args.identity.now c.secret_pieces-secret.result c.text.result c.pieces_len.result c.pieces_len-2.result
    c.secret_pieces-secret.ensures.spelled c.text.ensures.string c.pieces_len.ensures c.pieces_len-2.ensures c.if-len.true

pub returns-in-Ok-push_pieces-2-clause-ok : goal.returns-in-Ok-push_pieces-2-clause-ok
returns-in-Ok-push_pieces-2-clause-ok c =
    identity_bytes c.args.identity.now (c.pieces_len.result + c.pieces_len-2.result + 1) c.args.out.now.items c.text.result
    c.push_head.new.out.items c.push_pieces.new.out.items c.push_pieces-2.new.out.items c.secret_pieces-secret.result
    c.secret_pieces-secret.ensures.spelled c.text.ensures.string c.in-Ok.ensures c.in-Ok-push_pieces.ensures
    c.in-Ok-push_pieces-2.ensures
    (is_as_long c.args.identity.now c.secret_pieces-secret.result c.text.result c.pieces_len.result c.pieces_len-2.result
    c.secret_pieces-secret.ensures.spelled c.text.ensures.string c.pieces_len.ensures c.pieces_len-2.ensures c.if-len.false)
