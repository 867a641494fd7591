-- The format or what follows it is refused after fields before which the count did not move.
use Rattle.std.proofs.Common.{◌∙◌}
use Rattle.picky_wire.specs.Takes.{causes_of}
use Rattle.picky_cert_parts.specs.CertFromWire.{signature_error}
use Rattle.picky_cert_parts.specs.Signature.{signature_format, signature_rest}
use Rattle.picky_cert_parts.proofs.CauseLemmas.{counted_later}
use Rattle.picky_cert_parts.proofs.SignatureLemmas.{format_cause, rest_cause}
use Rattle.picky_cert_parts.proofs.signature_codec.SshSignatureSshComplexTypeDecode.decode.Goals as goal

pub returns-in-Err-take_format-clause-cause : goal.returns-in-Err-take_format-clause-cause
returns-in-Err-take_format-clause-cause g c =
    format_cause c.in-Err-take_format.e _
    (counted_later (causes_of signature_error) signature_format.read c.in-Err-take_format.e _ _ _
    c.in-Ok.ensures.takes.calm c.in-Err-take_format.ensures.cause)

pub returns-in-Err-take_signature_rest-clause-cause : goal.returns-in-Err-take_signature_rest-clause-cause
returns-in-Err-take_signature_rest-clause-cause g c =
    rest_cause c.in-Ok-take_format.format c.in-Err-take_signature_rest.e _
    (counted_later (causes_of signature_error) (signature_rest c.in-Ok-take_format.format).read c.in-Err-take_signature_rest.e _ _ _
    (c.in-Ok-take_format.ensures.takes.calm ∙ c.in-Ok.ensures.takes.calm) c.in-Err-take_signature_rest.ensures.cause)
