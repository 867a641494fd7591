-- Names that are too long make the terms too long; the others are pushed in two parts.
use Rattle.std.specs.List.{flat_map}
use Rattle.std.proofs.Common.{◌∙◌, ap, arith}
use Rattle.picky_wire_base.specs.Wire.{string_of}
use Rattle.picky_cert.specs.Certificate.{said}
use Rattle.picky_cert.proofs.WrittenLemmas.{principals_within, terms_pushed}
use Rattle.picky_cert.proofs.blob_bytes.push_terms.Goals as goal

pub returns-in-Err-clause-too_long : goal.returns-in-Err-clause-too_long
returns-in-Err-clause-too_long c = λ same.
    let long = rw c.as_slice.ensures at (c.in-Err.ensures.too_long same) in
    omega (arith, long, principals_within (said c.args.certificate.now).terms)

pub returns-in-Ok-push_pieces-2-clause-pushed : goal.returns-in-Ok-push_pieces-2-clause-pushed
returns-in-Ok-push_pieces-2-clause-pushed c =
    terms_pushed (said c.args.certificate.now).terms c.as_slice-2.result.now _ _ c.args.out.now.items
    c.push_pieces.new.out.items c.push_pieces-2.new.out.items
    (c.as_slice-2.ensures.value ∙ c.in-Ok.ensures.block ∙ ap (flat_map string_of) c.as_slice.ensures)
    c.terms_front.ensures c.terms_back.ensures c.in-Ok-push_pieces.ensures c.in-Ok-push_pieces-2.ensures
