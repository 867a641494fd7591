-- Four bytes end early, or the source failed.
use Rattle.picky_cert_parts.proofs.FieldLemmas.{uint32_cause}
use Rattle.picky_cert_parts.proofs.fields.uint32_field.Goals as goal

pub returns-in-Err-clause-cause : goal.returns-in-Err-clause-cause
returns-in-Err-clause-cause g c =
    rw c.from_wire.ensures (uint32_cause g.E.CodecError.of_wire c.in-Err.e _ c.in-Err.ensures.cause)
