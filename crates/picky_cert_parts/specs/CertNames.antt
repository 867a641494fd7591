-- The names of types of certificates, critical options and extensions (OpenSSH's PROTOCOL.certkeys), and of signature
-- formats (RFC 4253, section 6.6; RFC 8332, section 3; RFC 5656, section 3.1.2; RFC 8709, section 6; PROTOCOL.u2f).
use Rattle.std.specs.Prelude.{List, [], ◌∷◌, ℕ, codes, Bool, true, false}
use Rattle.picky_cert_parts.specs.declared.cert_key_type.SshCertKeyType.{SshCertKeyType}
use Rattle.picky_cert_parts.specs.declared.cert_key_type.SshCertKeyType.TheVariants as keytypes
use Rattle.picky_cert_parts.specs.declared.option_type.SshCriticalOptionType.{SshCriticalOptionType}
use Rattle.picky_cert_parts.specs.declared.option_type.SshCriticalOptionType.TheVariants as options
use Rattle.picky_cert_parts.specs.declared.known_extension.KnownExtension.{KnownExtension}
use Rattle.picky_cert_parts.specs.declared.known_extension.KnownExtension.TheVariants as known
use Rattle.picky_cert_parts.specs.declared.signature_format.SshSignatureFormat.{SshSignatureFormat}
use Rattle.picky_cert_parts.specs.declared.signature_format.SshSignatureFormat.TheVariants as formats

-- the name of a type of certificates
unfoldable pub cert_key_type_name : SshCertKeyType → List ℕ
cert_key_type_name keytypes.SshRsaV01 = codes "ssh-rsa-cert-v01@openssh.com"
cert_key_type_name keytypes.SshDssV01 = codes "ssh-dss-cert-v01@openssh.com"
cert_key_type_name keytypes.RsaSha2_256V01 = codes "rsa-sha2-256-cert-v01@openssh.com"
cert_key_type_name keytypes.RsaSha2_512v01 = codes "rsa-sha2-512-cert-v01@openssh.com"
cert_key_type_name keytypes.EcdsaSha2Nistp256V01 = codes "ecdsa-sha2-nistp256-cert-v01@openssh.com"
cert_key_type_name keytypes.EcdsaSha2Nistp384V01 = codes "ecdsa-sha2-nistp384-cert-v01@openssh.com"
cert_key_type_name keytypes.EcdsaSha2Nistp521V01 = codes "ecdsa-sha2-nistp521-cert-v01@openssh.com"
cert_key_type_name keytypes.SshEd25519V01 = codes "ssh-ed25519-cert-v01@openssh.com"
cert_key_type_name keytypes.SkSshSha2Nistp256V01 = codes "sk-ecdsa-sha2-nistp256-cert-v01@openssh.com"
cert_key_type_name keytypes.SkSshEd25519V01 = codes "sk-ssh-ed25519-cert-v01@openssh.com"

-- the types of certificates by the kind of their subject's key, in the order in which their names are tried
abbrev pub cert_key_types_in_order : List SshCertKeyType
cert_key_types_in_order =
    keytypes.SshRsaV01 ∷ keytypes.SshDssV01 ∷ keytypes.RsaSha2_256V01 ∷ keytypes.RsaSha2_512v01
    ∷ keytypes.EcdsaSha2Nistp256V01 ∷ keytypes.EcdsaSha2Nistp384V01
    ∷ keytypes.EcdsaSha2Nistp521V01 ∷ keytypes.SshEd25519V01 ∷ keytypes.SkSshSha2Nistp256V01
    ∷ keytypes.SkSshEd25519V01 ∷ []

-- the name of a critical option
unfoldable pub option_name : SshCriticalOptionType → List ℕ
option_name options.ForceCommand = codes "force-command"
option_name options.SourceAddress = codes "source-address"
option_name options.VerifyRequired = codes "verify-required"

-- the critical options, in the order in which their names are tried
abbrev pub options_in_order : List SshCriticalOptionType
options_in_order =
    options.ForceCommand ∷ options.SourceAddress ∷ options.VerifyRequired ∷ []

-- the name of a known extension
unfoldable pub known_name : KnownExtension → List ℕ
known_name known.NoTouchRequired = codes "no-touch-required"
known_name known.PermitX11Forwarding = codes "permit-X11-forwarding"
known_name known.PermitAgentForwarding = codes "permit-agent-forwarding"
known_name known.PermitPortForwarding = codes "permit-port-forwarding"
known_name known.PermitPty = codes "permit-pty"
known_name known.PermitUserPc = codes "permit-user-rc"

-- the known extensions, in the order in which their names are tried
abbrev pub known_in_order : List KnownExtension
known_in_order =
    known.NoTouchRequired ∷ known.PermitX11Forwarding ∷ known.PermitAgentForwarding
    ∷ known.PermitPortForwarding ∷ known.PermitPty ∷ known.PermitUserPc ∷ []

-- the name of a signature format
unfoldable pub format_name : SshSignatureFormat → List ℕ
format_name formats.SshRsa = codes "ssh-rsa"
format_name formats.RsaSha256 = codes "rsa-sha2-256"
format_name formats.RsaSha512 = codes "rsa-sha2-512"
format_name formats.EcdsaSha2Nistp256 = codes "ecdsa-sha2-nistp256"
format_name formats.EcdsaSha2Nistp384 = codes "ecdsa-sha2-nistp384"
format_name formats.EcdsaSha2Nistp521 = codes "ecdsa-sha2-nistp521"
format_name formats.SshEd25519 = codes "ssh-ed25519"
format_name formats.SkEcdsaSha2NistP256 = codes "sk-ecdsa-sha2-nistp256@openssh.com"
format_name formats.SkEd25519 = codes "sk-ssh-ed25519@openssh.com"

-- the formats of signatures, in the order in which their names are tried
abbrev pub formats_in_order : List SshSignatureFormat
formats_in_order =
    formats.SshRsa ∷ formats.RsaSha256 ∷ formats.RsaSha512 ∷ formats.EcdsaSha2Nistp256
    ∷ formats.EcdsaSha2Nistp384 ∷ formats.EcdsaSha2Nistp521 ∷ formats.SshEd25519
    ∷ formats.SkEcdsaSha2NistP256 ∷ formats.SkEd25519 ∷ []

-- whether a security key signs in the format, so that flags and a counter follow the signature's string
abbrev pub is_sk : SshSignatureFormat → Bool
is_sk formats.SshRsa = false
is_sk formats.RsaSha256 = false
is_sk formats.RsaSha512 = false
is_sk formats.EcdsaSha2Nistp256 = false
is_sk formats.EcdsaSha2Nistp384 = false
is_sk formats.EcdsaSha2Nistp521 = false
is_sk formats.SshEd25519 = false
is_sk formats.SkEcdsaSha2NistP256 = true
is_sk formats.SkEd25519 = true
