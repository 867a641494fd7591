-- The pieces, at the seconds of the two moments.
use Rattle.std.specs.Int.{w64, to_be_bytes}
use Rattle.std.proofs.Common.{◌∙◌, ap, refl}
use Rattle.picky_cert.proofs.blob_bytes.terms_back.Goals as goal

pub returns : goal.returns
returns c =
    let after = c.uint64.ensures ∙ ap (to_be_bytes w64) c.secs.ensures in
    let before = c.uint64-2.ensures ∙ ap (to_be_bytes w64) c.secs-2.ensures in
    rw (c.string.ensures.string, after, before) refl
