-- The comment is refused.
use Rattle.std.proofs.Common.{inr}
use Rattle.picky_wire_base.specs.Wire.{text}
use Rattle.picky_sshkey.proofs.BlockLemmas.{block_refused, comment_refused}
use Rattle.picky_sshkey.proofs.block.block_in.Goals as goal

pub returns-in-Err-word_at-clause-gives : goal.returns-in-Err-word_at-clause-gives
returns-in-Err-word_at-clause-gives c =
    inr (block_refused c.args.block.now _ _ _ _ c.field_refusal.result c.in-Ok.ensures.ok
    c.in-Ok-private_at.ensures.seen.sees
    (comment_refused (text.read _) _ c.field_refusal.result c.in-Err-word_at.ensures.sees c.field_refusal.ensures))
