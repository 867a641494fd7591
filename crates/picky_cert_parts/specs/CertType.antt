-- The type of a certificate on the wire: a uint32 (OpenSSH's PROTOCOL.certkeys, "type").
use Rattle.std.specs.Prelude.{List, ℕ}
use Rattle.std.specs.Int.{w32, to_be_bytes}
use Rattle.picky_wire_base.specs.Grammar.{Grammar}
use Rattle.picky_wire_base.specs.Combine.{narrow}
use Rattle.picky_wire_base.specs.Entry.{entry}
use Rattle.picky_wire_base.specs.Wire.{uint32}
use Rattle.picky_cert_parts.specs.declared.error.SshCertTypeError.{SshCertTypeError}
use Rattle.picky_cert_parts.specs.declared.error.SshCertTypeError.TheVariants as errors
use Rattle.picky_cert_parts.specs.declared.cert_type.SshCertType.{SshCertType}
use Rattle.picky_cert_parts.specs.CertFromWire.{cert_type_error}
use Rattle.picky_cert_parts.specs.Field.{field}
use Rattle.picky_cert_parts.specs.CertNumber.{cert_type_number}
use Rattle.picky_cert_parts.specs.NumberTable.{cert_types}

-- uint32 type, 1 or 2; another is refused with itself
unfoldable pub cert_type : Grammar SshCertTypeError SshCertType
cert_type = narrow (field cert_type_error uint32) (entry errors.InvalidCertificateType cert_types)

-- the one spelling that is written
unfoldable pub cert_type_of : SshCertType → List ℕ
cert_type_of t = to_be_bytes w32 (cert_type_number t)
