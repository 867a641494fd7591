-- The wire's errors as those of a certificate and its parts.
use Rattle.picky_wire.specs.declared.error.WireError.{WireError}
use Rattle.picky_wire.specs.OfWire.{said_as}
use Rattle.picky_cert_parts.specs.declared.error.SshCertTypeError.{SshCertTypeError}
use Rattle.picky_cert_parts.specs.declared.error.SshCertTypeError.TheVariants as types
use Rattle.picky_cert_parts.specs.declared.error.SshCriticalOptionError.{SshCriticalOptionError}
use Rattle.picky_cert_parts.specs.declared.error.SshCriticalOptionError.TheVariants as options
use Rattle.picky_cert_parts.specs.declared.error.SshExtensionError.{SshExtensionError}
use Rattle.picky_cert_parts.specs.declared.error.SshExtensionError.TheVariants as extensions
use Rattle.picky_cert_parts.specs.declared.error.SshSignatureError.{SshSignatureError}
use Rattle.picky_cert_parts.specs.declared.error.SshSignatureError.TheVariants as signatures
use Rattle.picky_cert_parts.specs.declared.error.SshCertificateError.{SshCertificateError}
use Rattle.picky_cert_parts.specs.declared.error.SshCertificateError.TheVariants as certificates

-- the error of a certificate's type that says what the wire's error says
abbrev pub cert_type_error : WireError → SshCertTypeError
cert_type_error = said_as types.IoError types.InvalidUtf8 types.TooLong types.NoMemory

-- the error of a critical option that says what the wire's error says
abbrev pub option_error : WireError → SshCriticalOptionError
option_error = said_as options.IoError options.InvalidUtf8 options.TooLong options.NoMemory

-- the error of an extension that says what the wire's error says
abbrev pub extension_error : WireError → SshExtensionError
extension_error = said_as extensions.IoError extensions.InvalidUtf8 extensions.TooLong extensions.NoMemory

-- the error of a signature that says what the wire's error says
abbrev pub signature_error : WireError → SshSignatureError
signature_error = said_as signatures.IoError signatures.InvalidUtf8 signatures.TooLong signatures.NoMemory

-- the error of a certificate that says what the wire's error says
abbrev pub certificate_error : WireError → SshCertificateError
certificate_error =
    said_as certificates.CertificateProcessingError certificates.InvalidUtf8 certificates.TooLong certificates.NoMemory
