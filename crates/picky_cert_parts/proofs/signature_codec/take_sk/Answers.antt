-- Flags or counter are cut after fields before which the count did not move.
use Rattle.std.proofs.Common.{◌∙◌}
use Rattle.picky_wire_base.specs.Numbers.{byte}
use Rattle.picky_wire_base.specs.Wire.{uint32}
use Rattle.picky_wire.specs.Takes.{causes_of}
use Rattle.picky_cert_parts.specs.CertFromWire.{signature_error}
use Rattle.picky_cert_parts.specs.Field.{field}
use Rattle.picky_cert_parts.proofs.CauseLemmas.{counted_later}
use Rattle.picky_cert_parts.proofs.SignatureLemmas.{flags_cause, counter_cause}
use Rattle.picky_cert_parts.proofs.signature_codec.take_sk.Goals as goal

pub returns-in-Err-byte_field-clause-cause : goal.returns-in-Err-byte_field-clause-cause
returns-in-Err-byte_field-clause-cause g c =
    flags_cause c.args.format c.in-Err-byte_field.e _
    (counted_later (causes_of signature_error) (field signature_error byte).read c.in-Err-byte_field.e _ _ _
    c.in-Ok.ensures.takes.calm c.in-Err-byte_field.ensures.cause)

pub returns-in-Err-uint32_field-clause-cause : goal.returns-in-Err-uint32_field-clause-cause
returns-in-Err-uint32_field-clause-cause g c =
    counter_cause c.args.format c.in-Err-uint32_field.e _
    (counted_later (causes_of signature_error) (field signature_error uint32).read c.in-Err-uint32_field.e _ _ _
    (c.in-Ok-byte_field.ensures.takes.calm ∙ c.in-Ok.ensures.takes.calm) c.in-Err-uint32_field.ensures.cause)
