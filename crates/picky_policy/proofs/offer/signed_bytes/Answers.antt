-- The part that is seen is what is signed, and no longer than the bytes; bytes of a certificate aren't refused.
use Rattle.std.proofs.Common.{◌∙◌, arith}
use Rattle.std.proofs.lemmas.Result.{IfOk-weaker}
use Rattle.picky_wire_base.specs.View.{why_of}
use Rattle.picky_policy.proofs.OfferLemmas.{blob_refused, part_is_signed}
use Rattle.picky_policy.proofs.offer.signed_bytes.Goals as goal

pub to_bytes-requires : goal.to_bytes-requires
to_bytes-requires c =
    let part = part_is_signed c.args.blob.now c.in-Ok.view c.in-Ok.ensures.seen.placed.0 in
    omega (arith, part.1)

pub returns : goal.returns
returns c =
    let part = part_is_signed c.args.blob.now c.in-Ok.view c.in-Ok.ensures.seen.placed.0 in
    IfOk-weaker c.to_bytes.result _ _ (λ bytes is. is ∙ part.0) c.to_bytes.ensures

pub unreachable-requires : goal.unreachable-requires
unreachable-requires c = blob_refused c.args.blob.now (why_of c.in-Err.field-0) c.in-Err.ensures.seen.sees c.requires.read
