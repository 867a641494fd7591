-- The part of a certificate that doesn't fit, as the certificate's error.
use Rattle.std.specs.Prelude.{List, ℕ, bytes_eq, if◌then◌else◌}
use Rattle.picky_wire_base.specs.Flaw.{Why, Flawed, Length, Magic, Name, Number}
use Rattle.picky_wire.specs.Flaws.{wire_error}
use Rattle.picky_keys.specs.BlobRefusal.{why_error as key_error}
use Rattle.picky_cert_parts.specs.declared.cert_key_type.SshCertKeyType.TheVariants as key_types
use Rattle.picky_cert_parts.specs.declared.error.SshCertificateError.{SshCertificateError}
use Rattle.picky_cert_parts.specs.declared.error.SshCertificateError.TheVariants as errors
use Rattle.picky_cert_parts.specs.declared.error.SshCertTypeError.TheVariants as types
use Rattle.picky_cert_parts.specs.declared.error.SshCriticalOptionError.TheVariants as options
use Rattle.picky_cert_parts.specs.declared.error.SshSignatureError.TheVariants as signatures
use Rattle.picky_cert_parts.specs.CertFromWire.{cert_type_error, certificate_error, extension_error, option_error}
use Rattle.picky_cert_parts.specs.CertFromWire.{signature_error}
use Rattle.picky_cert_parts.specs.CertNames.{cert_key_type_name}
use Rattle.picky_cert_blob.specs.Reason.{CertReason}
use Rattle.picky_cert_blob.specs.declared.part.CertPart.TheVariants as parts

-- a name of a type of certificates that isn't read: that of DSS, or an unknown one
abbrev pub name_error : List ℕ → SshCertificateError
name_error name =
    if bytes_eq name (cert_key_type_name key_types.SshDssV01) then errors.UnsupportedCertificateType name
    else errors.InvalidCertificateKeyType name

-- of a part whose errors are the certificate's own; none has a magic, and one alone a name or a number
abbrev pub own_error : Why → SshCertificateError
own_error (Flawed flaw) = certificate_error (wire_error flaw)
own_error Length = errors.KeyError
own_error (Name name) = name_error name
own_error (Number n) = errors.InvalidCertificateType (types.InvalidCertificateType n)
own_error Magic = errors.KeyError

-- of the type, user or host
abbrev pub type_error : Why → SshCertificateError
type_error (Flawed flaw) = errors.InvalidCertificateType (cert_type_error (wire_error flaw))
type_error why = own_error why

-- of the critical options, each and their list
abbrev pub options_error : Why → SshCertificateError
options_error (Flawed flaw) = errors.SshCriticalOptionError (option_error (wire_error flaw))
options_error (Name name) = errors.SshCriticalOptionError (options.UnsupportedCriticalOptionType name)
options_error why = own_error why

-- of the extensions, each and their list
abbrev pub extensions_error : Why → SshCertificateError
extensions_error (Flawed flaw) = errors.SshExtensionError (extension_error (wire_error flaw))
extensions_error why = own_error why

-- of the issuer's key, inside its string
abbrev pub issuer_error : Why → SshCertificateError
issuer_error why = errors.InvalidPublicKey (key_error why)

-- of the signature, with its length
abbrev pub signature_part_error : Why → SshCertificateError
signature_part_error (Flawed flaw) = errors.SshSignatureError (signature_error (wire_error flaw))
signature_part_error (Name name) = errors.SshSignatureError (signatures.UnsupportedSignatureFormat name)
signature_part_error why = own_error why

-- the error of the part that doesn't fit
abbrev pub cert_error : CertReason → SshCertificateError
cert_error (parts.CertType, why) = type_error why
cert_error (parts.Options, why) = options_error why
cert_error (parts.Extensions, why) = extensions_error why
cert_error (parts.Issuer, why) = issuer_error why
cert_error (parts.Signature, why) = signature_part_error why
cert_error (part, why) = own_error why
