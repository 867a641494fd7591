-- The kind of key that each type of certificates is for (OpenSSH's PROTOCOL.certkeys).
use Rattle.std.specs.Prelude.{Bool, false, Option, Some, None, bytes_eq}
use Rattle.picky_keys.specs.declared.curve.EcCurve.TheVariants.{NistP256, NistP384, NistP521}
use Rattle.picky_keys.specs.declared.curve.EdAlgorithm.TheVariants.{Ed25519}
use Rattle.picky_keys.specs.declared.kind.KeyKind.{KeyKind}
use Rattle.picky_keys.specs.declared.kind.KeyKind.TheVariants as kinds
use Rattle.picky_keys.specs.KeyNames.{kind_name}
use Rattle.picky_keys.specs.declared.key.SshBasePublicKey.{SshBasePublicKey}
use Rattle.picky_keys.specs.Key.{kind_of}
use Rattle.picky_cert_parts.specs.declared.cert_key_type.SshCertKeyType.{SshCertKeyType}
use Rattle.picky_cert_parts.specs.declared.cert_key_type.SshCertKeyType.TheVariants as types

-- no key of DSS is read here
abbrev pub subject_kind : SshCertKeyType → Option KeyKind
subject_kind types.SshRsaV01 = Some kinds.Rsa
subject_kind types.SshDssV01 = None
subject_kind types.RsaSha2_256V01 = Some kinds.Rsa
subject_kind types.RsaSha2_512v01 = Some kinds.Rsa
subject_kind types.EcdsaSha2Nistp256V01 = Some (kinds.Ec NistP256)
subject_kind types.EcdsaSha2Nistp384V01 = Some (kinds.Ec NistP384)
subject_kind types.EcdsaSha2Nistp521V01 = Some (kinds.Ec NistP521)
subject_kind types.SshEd25519V01 = Some (kinds.Ed Ed25519)
subject_kind types.SkSshSha2Nistp256V01 = Some kinds.SkEcdsaSha2NistP256
subject_kind types.SkSshEd25519V01 = Some kinds.SkEd25519

-- whether the type is for the kind of this key
abbrev pub is_for : Option KeyKind → KeyKind → Bool
is_for (Some kind) other = bytes_eq (kind_name kind) (kind_name other)
is_for None other = false

abbrev pub fits_subject : SshCertKeyType → SshBasePublicKey → Bool
fits_subject key_type key = is_for (subject_kind key_type) (kind_of key)
