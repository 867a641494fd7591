-- The part of a certificate that doesn't fit, and why (OpenSSH's PROTOCOL.certkeys).
use Rattle.picky_wire_base.specs.Flaw.{Flaw, Why, Reason, Flawed, Length, Name, Short, NotUtf8, Big}
use Rattle.picky_wire_base.specs.Grammar.{Grammar}
use Rattle.picky_wire_base.specs.Combine.{tag}
use Rattle.picky_cert_parts.specs.declared.error.SshCriticalOptionError.{SshCriticalOptionError}
use Rattle.picky_cert_parts.specs.declared.error.SshCriticalOptionError.TheVariants as option_errors
use Rattle.picky_cert_parts.specs.declared.error.SshExtensionError.{SshExtensionError}
use Rattle.picky_cert_parts.specs.declared.error.SshExtensionError.TheVariants as extension_errors
use Rattle.picky_cert_parts.specs.declared.error.SshSignatureError.{SshSignatureError}
use Rattle.picky_cert_parts.specs.declared.error.SshSignatureError.TheVariants as signature_errors
use Rattle.picky_cert_blob.specs.declared.part.CertPart.{CertPart}
use Rattle.picky_cert_blob.specs.declared.part.CertPart.TheVariants as parts

abbrev pub CertReason : Type 0
CertReason = CertPart × Why

-- the fields of a key, all in one part
abbrev pub in_key : CertPart → Reason → CertReason
in_key part reason = (part, reason.1)

abbrev pub within : {A : Type 0} → CertPart → Grammar Reason A → Grammar CertReason A
within part G = tag (in_key part) G

-- what the error of a critical option, of an extension or of a signature says; no bytes are refused for a mismatch
abbrev pub option_why : SshCriticalOptionError → Why
option_why (option_errors.UnsupportedCriticalOptionType name) = Name name
option_why (option_errors.IoError kind) = Flawed Short
option_why option_errors.InvalidUtf8 = Flawed NotUtf8
option_why option_errors.TooLong = Flawed Big
option_why option_errors.NoMemory = Flawed Big

abbrev pub extension_why : SshExtensionError → Why
extension_why (extension_errors.IoError kind) = Flawed Short
extension_why extension_errors.InvalidUtf8 = Flawed NotUtf8
extension_why extension_errors.TooLong = Flawed Big
extension_why extension_errors.NoMemory = Flawed Big

abbrev pub signature_why : SshSignatureError → Why
signature_why (signature_errors.UnsupportedSignatureFormat name) = Name name
signature_why signature_errors.BlobMismatch = Length
signature_why (signature_errors.IoError kind) = Flawed Short
signature_why signature_errors.InvalidUtf8 = Flawed NotUtf8
signature_why signature_errors.TooLong = Flawed Big
signature_why signature_errors.NoMemory = Flawed Big

abbrev pub in_signature : {A : Type 0} → Grammar SshSignatureError A → Grammar CertReason A
in_signature G = tag (λ e. (parts.Signature, signature_why e)) G

-- a reason without its part
abbrev pub cert_why_in : CertReason → Why
cert_why_in reason = reason.1
