-- Which refusals of a certificate say, at some depth, that memory ran out, or that a source failed.
use Rattle.std.specs.Prelude.{◌≡◌}
use Rattle.picky_wire.specs.declared.error.IoKind.TheVariants as kinds
use Rattle.picky_keys.specs.declared.error.SshPublicKeyError.TheVariants as keys
use Rattle.picky_cert_parts.specs.declared.error.SshCertificateError.{SshCertificateError}
use Rattle.picky_cert_parts.specs.declared.error.SshCertificateError.TheVariants as errors
use Rattle.picky_cert_parts.specs.declared.error.SshCertTypeError.TheVariants as types
use Rattle.picky_cert_parts.specs.declared.error.SshCriticalOptionError.TheVariants as options
use Rattle.picky_cert_parts.specs.declared.error.SshExtensionError.TheVariants as extensions
use Rattle.picky_cert_parts.specs.declared.error.SshSignatureError.TheVariants as signatures

abbrev pub WantsMemory : SshCertificateError → Type 0
WantsMemory (errors.SshCriticalOptionError e) = e ≡ options.NoMemory
WantsMemory (errors.SshExtensionError e) = e ≡ extensions.NoMemory
WantsMemory (errors.InvalidCertificateType e) = e ≡ types.NoMemory
WantsMemory (errors.InvalidPublicKey e) = e ≡ keys.NoMemory
WantsMemory (errors.SshSignatureError e) = e ≡ signatures.NoMemory
WantsMemory e = e ≡ errors.NoMemory

abbrev pub IsReadFault : SshCertificateError → Type 0
IsReadFault (errors.SshCriticalOptionError e) = e ≡ options.IoError kinds.ReadFault
IsReadFault (errors.SshExtensionError e) = e ≡ extensions.IoError kinds.ReadFault
IsReadFault (errors.InvalidCertificateType e) = e ≡ types.IoError kinds.ReadFault
IsReadFault (errors.InvalidPublicKey e) = e ≡ keys.IoError kinds.ReadFault
IsReadFault (errors.SshSignatureError e) = e ≡ signatures.IoError kinds.ReadFault
IsReadFault e = e ≡ errors.CertificateProcessingError kinds.ReadFault
