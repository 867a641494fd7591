-- The numbers of the types of certificates (OpenSSH's PROTOCOL.certkeys, "type").
use Rattle.std.specs.Prelude.{List, [], ◌∷◌, ℕ}
use Rattle.picky_cert_parts.specs.declared.cert_type.SshCertType.{SshCertType}
use Rattle.picky_cert_parts.specs.declared.cert_type.SshCertType.TheVariants.{Client, Host}

-- SSH_CERT_TYPE_USER and SSH_CERT_TYPE_HOST
abbrev pub cert_type_number : SshCertType → ℕ
cert_type_number Client = 1
cert_type_number Host = 2

-- the types, in the order in which their numbers are tried
abbrev pub cert_types_in_order : List SshCertType
cert_types_in_order = Client ∷ Host ∷ []
