-- The id stands before the first space of the line.
use Rattle.std.proofs.Common.{◌++◌, ◌∙◌, ap, string_bytes}
use Rattle.picky_ledger.specs.Replies.{reply_line}
use Rattle.picky_ledger.proofs.RequestLemmas.{line_answers, line_fails}
use Rattle.picky_ledger.proofs.requests.answer_request.Goals as goal

pub returns-in-Ok-push_reply-clause-answers : goal.returns-in-Ok-push_reply-clause-answers
returns-in-Ok-push_reply-clause-answers g c =
    line_answers (g.G.Signer.signs c.args.signer.now) c.args.issuer.now.inner_key c.copy_from_slice.new.self c.args.fresh.now
    c.args.ledger.now _ c.args.line.now _ c.in-Ok.reply (string_bytes c.args.replies.now) _ c.utf8.line c.copy_from_slice.ensures.after
    c.in-Ok.ensures.applies
    (c.in-Ok-push_reply.ensures ∙ ap (λ id. string_bytes c.args.replies.now ++ reply_line id c.in-Ok.reply) c.id_of.ensures)

pub returns-in-Err-clause-answers : goal.returns-in-Err-clause-answers
returns-in-Err-clause-answers g c =
    line_fails (Unit {0}) (g.G.Signer.signs c.args.signer.now) c.args.issuer.now.inner_key c.copy_from_slice.new.self c.args.fresh.now
    c.args.ledger.now _ c.args.line.now _ c.in-Err.e (string_bytes c.args.replies.now)
    (string_bytes c.args.replies.now) c.copy_from_slice.ensures.after c.in-Err.ensures.applies
