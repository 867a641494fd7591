-- What is written, said of the bytes.
use Rattle.std.proofs.Common.{◌≡◌, subst}
use Rattle.picky_suite.specs.Meanings.{plain}
use Rattle.picky_changed.specs.Comment.{IsCommented}
use Rattle.picky_c.proofs.CommentLemmas.{text_is_commented}
use Rattle.picky_c.proofs.comment.commented.Goals as goal

pub returns-in-Ok-clause-means : goal.returns-in-Ok-clause-means
returns-in-Ok-clause-means c =
    let handed : c.in-Ok.text ≡ c.into_bytes.result.items = cc in
    subst (λ out. IsCommented plain c.args.comment.now c.args.text.now out) handed
    (text_is_commented _ c.args.text.now c.args.comment.now c.in-Some.text.now c.in-Some-as_text.comment.now c.in-Ok.text c.new-suite.ensures.meanings
    c.in-Some.ensures.0 c.in-Some.ensures.1 c.in-Some-as_text.ensures.0 c.in-Some-as_text.ensures.1 c.in-Ok.ensures.gives)
