-- A byte ends early, or the source failed.
use Rattle.picky_cert_parts.proofs.FieldLemmas.{byte_cause}
use Rattle.picky_cert_parts.proofs.fields.byte_field.Goals as goal

pub returns-in-Err-clause-cause : goal.returns-in-Err-clause-cause
returns-in-Err-clause-cause g c =
    rw c.from_wire.ensures (byte_cause g.E.CodecError.of_wire c.in-Err.e _ c.in-Err.ensures.cause)
