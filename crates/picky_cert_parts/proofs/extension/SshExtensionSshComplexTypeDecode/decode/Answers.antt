-- The payload is cut after a name, before which the count did not move.
use Rattle.picky_wire_base.specs.Wire.{string}
use Rattle.picky_wire.specs.Takes.{causes_of}
use Rattle.picky_cert_parts.specs.CertFromWire.{extension_error}
use Rattle.picky_cert_parts.specs.Field.{field}
use Rattle.picky_cert_parts.proofs.CauseLemmas.{counted_later}
use Rattle.picky_cert_parts.proofs.ExtensionLemmas.{extension_payload_cause}
use Rattle.picky_cert_parts.proofs.extension.SshExtensionSshComplexTypeDecode.decode.Goals as goal

pub returns-in-Err-bytes_field-clause-cause : goal.returns-in-Err-bytes_field-clause-cause
returns-in-Err-bytes_field-clause-cause g c =
    extension_payload_cause c.in-Err-bytes_field.e _
    (counted_later (causes_of extension_error) (field extension_error string).read c.in-Err-bytes_field.e _ _ _
    c.in-Ok.ensures.takes.calm c.in-Err-bytes_field.ensures.cause)
