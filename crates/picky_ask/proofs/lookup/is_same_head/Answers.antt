use Rattle.std.proofs.Common.{◌∙◌, sym}
use Rattle.picky_ask.specs.inner.HeadView.{head_seen}
use Rattle.picky_ask.proofs.SameLemmas.{same_head-Decides, tests_alike}
use Rattle.picky_ask.proofs.lookup.is_same_head.Goals as goal

pub returns : goal.returns
returns c =
    let equal = c.heads_are_equal_by_contents.ensures c.args.head.now c.head_view.result in
    c.eq.ensures
    ∙ tests_alike _ _ (λ is. equal.0 is ∙ c.head_view.ensures) (λ same. equal.1 (same ∙ sym c.head_view.ensures))
    (same_head-Decides (head_seen c.args.head.now) c.args.other.now)
