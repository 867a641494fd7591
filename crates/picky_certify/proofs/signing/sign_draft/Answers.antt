-- What is come to, by what the table says of the question.
use Rattle.picky_cert_builder.specs.Drafted.{draft_shown}
use Rattle.picky_certify.proofs.SignedLemmas.{draft_unanswered, line_is_signed, table_signed}
use Rattle.picky_certify.proofs.signing.sign_draft.Goals as goal

pub returns-in-Ok-line_with : goal.returns-in-Ok-line_with
returns-in-Ok-line_with g c =
    line_is_signed c.args.table.now (draft_shown c.args.draft) c.in-Ok.signature c.in-Ok-line_with.line.items
    (table_signed c.args.table.now c.args.draft c.as_slice.result.now c.in-Ok.signature c.new-signer.result c.requires.whole
    c.as_slice.ensures.bytes c.new-signer.ensures c.in-Ok.ensures.0) c.in-Ok-line_with.ensures.ok c.in-Ok-line_with.ensures.back

pub returns : goal.returns
returns g c =
    draft_unanswered c.args.table.now c.args.draft c.as_slice.result.now c.in-Err-Failed.field-0 c.new-signer.result c.ask_signature.new.self
    c.into_missing.result c.unanswered.result c.requires.whole c.as_slice.ensures.bytes c.new-signer.ensures c.in-Err-Failed.field-0-is
    c.in-Err-Failed.ensures c.into_missing.ensures.missing c.unanswered.ensures
