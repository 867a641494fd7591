-- A text that isn't read has no offer.
use Rattle.picky_policy.proofs.RunLemmas.{unread_gives}
use Rattle.picky_policy.proofs.answer.take_offer.Goals as goal

pub returns-in-Err : goal.returns-in-Err
returns-in-Err c =
    unread_gives c.args.text.now c.in-Err.e c.unread.result c.in-Err.ensures c.unread.ensures.want c.unread.ensures.two
