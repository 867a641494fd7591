-- No two of one table have one name.
use Rattle.std.specs.Prelude.{◌≡◌, Some, find, bytes_eq}
use Rattle.std.proofs.Common.{refl}
use Rattle.picky_cert_parts.specs.declared.cert_key_type.SshCertKeyType.{SshCertKeyType}
use Rattle.picky_cert_parts.specs.declared.cert_key_type.SshCertKeyType.TheVariants as keytypes
use Rattle.picky_cert_parts.specs.declared.option_type.SshCriticalOptionType.{SshCriticalOptionType}
use Rattle.picky_cert_parts.specs.declared.option_type.SshCriticalOptionType.TheVariants as options
use Rattle.picky_cert_parts.specs.declared.known_extension.KnownExtension.{KnownExtension}
use Rattle.picky_cert_parts.specs.declared.known_extension.KnownExtension.TheVariants as known
use Rattle.picky_cert_parts.specs.declared.signature_format.SshSignatureFormat.{SshSignatureFormat}
use Rattle.picky_cert_parts.specs.declared.signature_format.SshSignatureFormat.TheVariants as formats
use Rattle.picky_cert_parts.specs.CertNames.{cert_key_type_name, cert_key_types_in_order}
use Rattle.picky_cert_parts.specs.CertNames.{option_name, options_in_order}
use Rattle.picky_cert_parts.specs.CertNames.{known_name, known_in_order}
use Rattle.picky_cert_parts.specs.CertNames.{format_name, formats_in_order}

-- the types of certificates by the kind of their subject's key have names of their own
pub own_cert_key_type : (a : SshCertKeyType)
    → find (λ other. bytes_eq (cert_key_type_name a) (cert_key_type_name other)) cert_key_types_in_order ≡ Some a
unfolding cert_key_type_name
own_cert_key_type keytypes.SshRsaV01 = refl
own_cert_key_type keytypes.SshDssV01 = refl
own_cert_key_type keytypes.RsaSha2_256V01 = refl
own_cert_key_type keytypes.RsaSha2_512v01 = refl
own_cert_key_type keytypes.EcdsaSha2Nistp256V01 = refl
own_cert_key_type keytypes.EcdsaSha2Nistp384V01 = refl
own_cert_key_type keytypes.EcdsaSha2Nistp521V01 = refl
own_cert_key_type keytypes.SshEd25519V01 = refl
own_cert_key_type keytypes.SkSshSha2Nistp256V01 = refl
own_cert_key_type keytypes.SkSshEd25519V01 = refl

-- the critical options have names of their own
pub own_option : (a : SshCriticalOptionType)
    → find (λ other. bytes_eq (option_name a) (option_name other)) options_in_order ≡ Some a
unfolding option_name
own_option options.ForceCommand = refl
own_option options.SourceAddress = refl
own_option options.VerifyRequired = refl

-- the known extensions have names of their own
pub own_known : (a : KnownExtension)
    → find (λ other. bytes_eq (known_name a) (known_name other)) known_in_order ≡ Some a
unfolding known_name
own_known known.NoTouchRequired = refl
own_known known.PermitX11Forwarding = refl
own_known known.PermitAgentForwarding = refl
own_known known.PermitPortForwarding = refl
own_known known.PermitPty = refl
own_known known.PermitUserPc = refl

-- the formats of signatures have names of their own
pub own_format : (a : SshSignatureFormat)
    → find (λ other. bytes_eq (format_name a) (format_name other)) formats_in_order ≡ Some a
unfolding format_name
own_format formats.SshRsa = refl
own_format formats.RsaSha256 = refl
own_format formats.RsaSha512 = refl
own_format formats.EcdsaSha2Nistp256 = refl
own_format formats.EcdsaSha2Nistp384 = refl
own_format formats.EcdsaSha2Nistp521 = refl
own_format formats.SshEd25519 = refl
own_format formats.SkEcdsaSha2NistP256 = refl
own_format formats.SkEd25519 = refl
