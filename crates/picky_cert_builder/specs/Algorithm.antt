-- By which algorithm an issuer signs, and in which format (RFC 4253, section 6.6; RFC 8332, section 3; RFC 5656, section 6.2.1;
-- RFC 8709, section 6).
use Rattle.std.specs.Prelude.{Option, Some, None}
use Rattle.picky_keys.specs.declared.algorithm.HashAlgorithm.TheVariants as hashes
use Rattle.picky_keys.specs.declared.algorithm.SignatureAlgorithm.{SignatureAlgorithm}
use Rattle.picky_keys.specs.declared.algorithm.SignatureAlgorithm.TheVariants as algorithms
use Rattle.picky_keys.specs.declared.curve.EcCurve.TheVariants.{NistP256, NistP384, NistP521}
use Rattle.picky_keys.specs.declared.kind.KeyKind.{KeyKind}
use Rattle.picky_keys.specs.declared.kind.KeyKind.TheVariants as kinds
use Rattle.picky_cert_parts.specs.declared.cert_key_type.SshCertKeyType.{SshCertKeyType}
use Rattle.picky_cert_parts.specs.declared.cert_key_type.SshCertKeyType.TheVariants as types
use Rattle.picky_cert_parts.specs.declared.signature_format.SshSignatureFormat.{SshSignatureFormat}
use Rattle.picky_cert_parts.specs.declared.signature_format.SshSignatureFormat.TheVariants as formats

-- the algorithm that a type of certificates is signed by, where no other is asked for
abbrev pub default_algorithm : SshCertKeyType → SignatureAlgorithm
default_algorithm types.EcdsaSha2Nistp256V01 = algorithms.Ecdsa hashes.SHA2_256
default_algorithm types.SkSshSha2Nistp256V01 = algorithms.Ecdsa hashes.SHA2_256
default_algorithm types.EcdsaSha2Nistp384V01 = algorithms.Ecdsa hashes.SHA2_384
default_algorithm types.SshEd25519V01 = algorithms.Ed25519
default_algorithm types.SkSshEd25519V01 = algorithms.Ed25519
default_algorithm t = algorithms.RsaPkcs1v15 hashes.SHA2_256

-- the format of the signatures that a kind of key makes by an algorithm; a security key makes none
abbrev pub format_of : KeyKind → SignatureAlgorithm → Option SshSignatureFormat
format_of kinds.Rsa (algorithms.RsaPkcs1v15 hashes.SHA1) = Some formats.SshRsa
format_of kinds.Rsa (algorithms.RsaPkcs1v15 hashes.SHA2_256) = Some formats.RsaSha256
format_of kinds.Rsa (algorithms.RsaPkcs1v15 hashes.SHA2_512) = Some formats.RsaSha512
format_of (kinds.Ec NistP256) (algorithms.Ecdsa hashes.SHA2_256) = Some formats.EcdsaSha2Nistp256
format_of (kinds.Ec NistP384) (algorithms.Ecdsa hashes.SHA2_384) = Some formats.EcdsaSha2Nistp384
format_of (kinds.Ec NistP521) (algorithms.Ecdsa hashes.SHA2_512) = Some formats.EcdsaSha2Nistp521
format_of (kinds.Ed algorithm) algorithms.Ed25519 = Some formats.SshEd25519
format_of kind algorithm = None
