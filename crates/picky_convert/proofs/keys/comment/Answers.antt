-- A comment is short.
use Rattle.std.proofs.Common.{ap, arith, length}
use Rattle.picky_convert.proofs.CommentLemmas.{comment_size}
use Rattle.picky_convert.specs.SampleKeys.{comment_at}
use Rattle.picky_convert.proofs.keys.comment.Goals as goal

pub from_string-requires : goal.from_string-requires
unfolding comment_at
from_string-requires c =
    let i = c.args.number in
    let size = comment_size i (omega arith) in
    omega (arith, size, ap length c.in_ok-comment.ensures.ok, c.in_ok-comment.comment.bytes.ok.0)
