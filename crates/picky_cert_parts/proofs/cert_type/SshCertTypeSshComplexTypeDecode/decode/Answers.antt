-- The number is no type's.
use Rattle.std.proofs.Common.{rules, sym}
use Rattle.picky_cert_parts.proofs.CertTypeLemmas.{type_cause}
use Rattle.picky_cert_parts.proofs.cert_type.SshCertTypeSshComplexTypeDecode.decode.Goals as goal

pub returns-in-Err-try_from_number-clause-cause : goal.returns-in-Err-try_from_number-clause-cause
returns-in-Err-try_from_number-clause-cause g c =
    type_cause c.in-Ok.number c.in-Err-try_from_number.e _ (search rules) (sym c.in-Err-try_from_number.ensures)
