-- The part that is seen is what is signed; bytes of a certificate aren't refused.
use Rattle.std.proofs.Common.{◌∙◌}
use Rattle.std.proofs.lemmas.Result.{IfOk-weaker}
use Rattle.picky_wire_base.specs.View.{why_of}
use Rattle.picky_cert.proofs.SignedLaws.{signed_part_is_front}
use Rattle.picky_cert_field.proofs.SignedLemmas.{blob_refused}
use Rattle.picky_cert_field.proofs.signed.signed_bytes.Goals as goal

pub returns : goal.returns
returns c =
    let part = signed_part_is_front c.args.blob.now c.in-Ok.view c.in-Ok.ensures.seen.placed.0 in
    IfOk-weaker c.from_slice.result _ _ (λ bytes is. is ∙ part) c.from_slice.ensures.items

pub unreachable-requires : goal.unreachable-requires
unreachable-requires c = blob_refused c.args.blob.now (why_of c.in-Err.field-0) c.in-Err.ensures.seen.sees c.requires.read
