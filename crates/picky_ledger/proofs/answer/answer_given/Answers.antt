-- The new ledger's text and the replies, joined.
use Rattle.std.proofs.Common.{string_bytes}
use Rattle.picky_ledger.specs.inner.Shown.{given_shown}
use Rattle.picky_ledger.proofs.RunLemmas.{joined_comes}
use Rattle.picky_ledger.proofs.answer.answer_given.Goals as goal

pub returns-in-Ok-to_string-clause-comes : goal.returns-in-Ok-to_string-clause-comes
returns-in-Ok-to_string-clause-comes g c = λ input asks.
    joined_comes (g.G.Signer.signs c.args.signer.now) c.args.fresh.now input (given_shown c.args.given) _
    c.answer_requests.new.ledger c.as_str.result.now (rw c.as_str.ensures.value c.in-Ok.ensures.answers) asks
    (λ text. string_bytes text) c.in-Ok-to_string.text c.ledger_and_replies.result c.entries.ensures.is c.in-Ok-to_string.ensures
    c.ledger_and_replies.ensures.joined c.ledger_and_replies.ensures.want
