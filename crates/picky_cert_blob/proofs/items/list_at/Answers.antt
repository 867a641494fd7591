-- What a list's string holds, and what is refused inside it.
use Rattle.std.proofs.Common.{subst, Ok, Err}
use Rattle.picky_cert_blob.specs.View.{ArePassed}
use Rattle.picky_cert_blob.proofs.PlaceLemmas.{list_items, list_passed, list_stopped}
use Rattle.picky_cert_blob.proofs.items.list_at.Goals as goal

pub returns-in-Ok-clause-seen : goal.returns-in-Ok-clause-seen
returns-in-Ok-clause-seen g c solid =
    list_passed g.I.Item.item solid c.args.part c.args.blob.now c.args.from c.in_ok-block.next c.in_ok-block.block
    c.in_ok-block.ensures
    (subst (λ b. ArePassed g.I.Item.item b c.in_ok-block.block.at (Ok tt)) c.split_at.ensures.front c.in-Ok.ensures)

pub returns-in-Err-clause-seen : goal.returns-in-Err-clause-seen
returns-in-Err-clause-seen g c solid =
    list_stopped g.I.Item.item solid c.args.part c.args.blob.now c.args.from c.in_ok-block.next c.in_ok-block.block c.in-Err.stopped
    c.in_ok-block.ensures
    (subst (λ b. ArePassed g.I.Item.item b c.in_ok-block.block.at (Err c.in-Err.stopped)) c.split_at.ensures.front c.in-Err.ensures)

pub returns-in-Ok-clause-items : goal.returns-in-Ok-clause-items
returns-in-Ok-clause-items g c =
    list_items g.I.Item.item c.args.part c.args.blob.now c.args.from c.in_ok-block.next c.in_ok-block.block
    c.in_ok-block.ensures
    (subst (λ b. ArePassed g.I.Item.item b c.in_ok-block.block.at (Ok tt)) c.split_at.ensures.front c.in-Ok.ensures)
