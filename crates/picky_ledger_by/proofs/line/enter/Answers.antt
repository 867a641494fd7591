-- The signature that was handed in is the certificate's, and the id stands before the first space of the line.
use Rattle.std.proofs.Common.{◌++◌, ◌∙◌, ap, string_bytes}
use Rattle.picky_ledger.specs.Replies.{reply_line}
use Rattle.picky_ledger_by.proofs.LineLemmas.{handed_enters}
use Rattle.picky_ledger_by.proofs.line.enter.Goals as goal

pub returns-in-Ok-push_reply : goal.returns-in-Ok-push_reply
returns-in-Ok-push_reply c =
    handed_enters c.new-signer.result c.args.signature c.args.issuer.now.inner_key c.args.nonce.now c.args.ledger.now
    c.apply-reply.new.self c.args.line.now _ c.in-Ok.reply (string_bytes c.args.replies.now) (string_bytes c.push_reply.new.text)
    c.new-signer.ensures.handed c.utf8.line c.in-Ok.ensures.applies
    (c.in-Ok-push_reply.ensures ∙ ap (λ id. string_bytes c.args.replies.now ++ reply_line id c.in-Ok.reply) c.id_of.ensures)
