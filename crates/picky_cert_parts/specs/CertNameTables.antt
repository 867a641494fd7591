-- The tables by name.
use Rattle.std.specs.Prelude.{List, ℕ}
use Rattle.picky_wire_base.specs.Table.{Table}
use Rattle.picky_wire_base.specs.Named.{names}
use Rattle.picky_cert_parts.specs.declared.cert_key_type.SshCertKeyType.{SshCertKeyType}
use Rattle.picky_cert_parts.specs.CertNames.{cert_key_type_name, cert_key_types_in_order}
use Rattle.picky_cert_parts.specs.carried.CertNames.{own_cert_key_type}
use Rattle.picky_cert_parts.specs.declared.option_type.SshCriticalOptionType.{SshCriticalOptionType}
use Rattle.picky_cert_parts.specs.CertNames.{option_name, options_in_order}
use Rattle.picky_cert_parts.specs.carried.CertNames.{own_option}
use Rattle.picky_cert_parts.specs.declared.known_extension.KnownExtension.{KnownExtension}
use Rattle.picky_cert_parts.specs.CertNames.{known_name, known_in_order}
use Rattle.picky_cert_parts.specs.carried.CertNames.{own_known}
use Rattle.picky_cert_parts.specs.declared.signature_format.SshSignatureFormat.{SshSignatureFormat}
use Rattle.picky_cert_parts.specs.CertNames.{format_name, formats_in_order}
use Rattle.picky_cert_parts.specs.carried.CertNames.{own_format}

-- the table of the types of certificates by the kind of their subject's key
unfoldable pub cert_key_types : Table (List ℕ) SshCertKeyType
cert_key_types = names cert_key_types_in_order cert_key_type_name own_cert_key_type

-- the table of the critical options
unfoldable pub option_types : Table (List ℕ) SshCriticalOptionType
option_types = names options_in_order option_name own_option

-- the table of the known extensions
unfoldable pub known_extensions : Table (List ℕ) KnownExtension
known_extensions = names known_in_order known_name own_known

-- the table of the formats of signatures
unfoldable pub signature_formats : Table (List ℕ) SshSignatureFormat
signature_formats = names formats_in_order format_name own_format
