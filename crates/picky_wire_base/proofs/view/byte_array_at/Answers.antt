-- The bytes are the first of those behind the place.
use Rattle.std.proofs.Common.{◌∙◌, ap, refl, arith, take}
use Rattle.picky_wire_base.proofs.ViewLemmas.{byte_array_seen}
use Rattle.picky_wire_base.proofs.view.byte_array_at.Goals as goal

pub returns : goal.returns
returns c =
    byte_array_seen c.args.len c.args.from c.args.blob.now _
    (omega (arith, c.if-rest-len.false, c.split_at.ensures.back_len)) refl
    (c.split_at-2.ensures.front ∙ ap (take c.args.len) c.split_at.ensures.back)
