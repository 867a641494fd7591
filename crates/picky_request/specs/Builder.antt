-- What a request line asks of a certificate authority.
use Rattle.std.specs.Prelude.{ℕ, Option, Some, None}
use Rattle.picky_keys.specs.declared.algorithm.HashAlgorithm.TheVariants as hashes
use Rattle.picky_keys.specs.declared.algorithm.SignatureAlgorithm.{SignatureAlgorithm}
use Rattle.picky_keys.specs.declared.algorithm.SignatureAlgorithm.TheVariants as algorithms
use Rattle.picky_keys.specs.declared.curve.EcCurve.TheVariants.{NistP256, NistP384, NistP521}
use Rattle.picky_keys.specs.declared.kind.KeyKind.{KeyKind}
use Rattle.picky_keys.specs.declared.kind.KeyKind.TheVariants as kinds
use Rattle.picky_keys.specs.declared.key.SshBasePublicKey.{SshBasePublicKey}
use Rattle.picky_keys.specs.Key.{kind_of}
use Rattle.picky_cert_parts.specs.declared.cert_key_type.SshCertKeyType.{SshCertKeyType}
use Rattle.picky_cert_parts.specs.declared.cert_key_type.SshCertKeyType.TheVariants as types
use Rattle.picky_cert.specs.Certificate.{bare}
use Rattle.picky_cert_builder.specs.declared.builder.SshCertificateBuilder.{SshCertificateBuilder}
use Rattle.picky_cert_builder.specs.declared.issuer.IssuerKey.TheVariants as issuers
use Rattle.picky_request.specs.declared.request.CertRequestLine.{CertRequestLine}

-- the type of the certificates for a kind of key; of the three for RSA the one whose name doesn't say how it is signed
abbrev pub type_for : KeyKind → SshCertKeyType
type_for kinds.Rsa = types.SshRsaV01
type_for (kinds.Ec NistP256) = types.EcdsaSha2Nistp256V01
type_for (kinds.Ec NistP384) = types.EcdsaSha2Nistp384V01
type_for (kinds.Ec NistP521) = types.EcdsaSha2Nistp521V01
type_for (kinds.Ed algorithm) = types.SshEd25519V01
type_for kinds.SkEcdsaSha2NistP256 = types.SkSshSha2Nistp256V01
type_for kinds.SkEd25519 = types.SkSshEd25519V01

-- the algorithm by which a kind of key signs; a security key by none
abbrev pub algorithm_by : KeyKind → Option SignatureAlgorithm
algorithm_by kinds.Rsa = Some (algorithms.RsaPkcs1v15 hashes.SHA2_512)
algorithm_by (kinds.Ec NistP256) = Some (algorithms.Ecdsa hashes.SHA2_256)
algorithm_by (kinds.Ec NistP384) = Some (algorithms.Ecdsa hashes.SHA2_384)
algorithm_by (kinds.Ec NistP521) = Some (algorithms.Ecdsa hashes.SHA2_512)
algorithm_by (kinds.Ed algorithm) = Some algorithms.Ed25519
algorithm_by kinds.SkEcdsaSha2NistP256 = None
algorithm_by kinds.SkEd25519 = None

-- the certificate that is asked for of an issuer, under a serial: no critical option, and of extensions the defaults of its kind
abbrev pub asked_of : (issuer : SshBasePublicKey) → (serial : ℕ) → CertRequestLine → SshCertificateBuilder
asked_of issuer serial r = record {
  cert_key_type = Some (type_for (kind_of r.key.inner_key));
  public_key = Some (bare r.key.inner_key);
  serial = Some serial;
  cert_type = Some r.cert_type;
  key_id = Some r.id;
  valid_principals = Some r.principals;
  valid_after = Some r.valid_after;
  valid_before = Some r.valid_before;
  critical_options = None;
  extensions = None;
  issuer = Some (issuers.Public issuer);
  signature_algo = algorithm_by (kind_of issuer);
  comment = Some r.key.comment;
}
