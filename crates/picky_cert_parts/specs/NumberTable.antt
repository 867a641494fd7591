-- The table of the types of certificates by number.
use Rattle.std.specs.Prelude.{ℕ}
use Rattle.picky_wire_base.specs.Table.{Table, numbers}
use Rattle.picky_cert_parts.specs.declared.cert_type.SshCertType.{SshCertType}
use Rattle.picky_cert_parts.specs.CertNumber.{cert_type_number, cert_types_in_order}
use Rattle.picky_cert_parts.specs.carried.CertNumber.{own_number}

unfoldable pub cert_types : Table ℕ SshCertType
cert_types = numbers cert_types_in_order cert_type_number own_number
