-- The question is that of the draft.
use Rattle.std.proofs.Common.{Ok, Result, subst}
use Rattle.picky_ledger.specs.Apply.{SignatureAsked, judged_request_line}
use Rattle.picky_ledger.specs.declared.reply.Reply.{Reply}
use Rattle.picky_ledger_by.specs.inner.Line.{IsDraftFor, LooksUp}
use Rattle.picky_ledger_by.proofs.LineLemmas.{draft_question, push_stops}
use Rattle.picky_ledger_by.proofs.signature.signature_for.Goals as goal

pub returns-in-Ok-Lacking : goal.returns-in-Ok-Lacking
returns-in-Ok-Lacking c =
    let says : Result SignatureAsked Reply =
    judged_request_line (record { issuer = c.args.issuer.now.inner_key; nonce = c.args.nonce.now }) c.args.ledger.now
    c.args.line.now in
    let lacks = subst (λ s. LooksUp c.args.table.now (draft_question c.in-Ok-Some.draft) (Ok s)) c.in-Ok-Lacking.field-0-is
    c.in-Ok-Lacking.ensures in
    push_stops says c.in-Ok-Some.draft c.in-Ok-Lacking.question c.in-Err-push_question.e
    (subst (λ d. IsDraftFor says d) c.in-Ok-Some.field-0-is c.in-Ok-Some.ensures) lacks.1 c.in-Err-push_question.ensures.err
