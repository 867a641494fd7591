-- Who signs a certificate: the public key, and the issuer that a device is asked to sign for.
use Rattle.picky_keys.specs.declared.curve.EcCurve.TheVariants.{NistP256}
use Rattle.picky_keys.specs.declared.private_key.Issuer.{Issuer}
use Rattle.picky_keys.specs.declared.private_key.Issuer.TheVariants as asked
use Rattle.picky_keys.specs.declared.private_key.PrivateKey.TheVariants as secrets
use Rattle.picky_keys.specs.declared.public_key.PublicKey.TheVariants as plain
use Rattle.picky_keys.specs.declared.key.SshBasePublicKey.{SshBasePublicKey}
use Rattle.picky_keys.specs.Key.{public_key_of}
use Rattle.picky_sshkey_blob.specs.declared.key.SshBasePrivateKey.{SshBasePrivateKey}
use Rattle.picky_sshkey_blob.specs.declared.key.SshBasePrivateKey.TheVariants as keys
use Rattle.picky_sshkey_blob.specs.Key.{public_part}
use Rattle.picky_cert_builder.specs.declared.issuer.IssuerKey.{IssuerKey}
use Rattle.picky_cert_builder.specs.declared.issuer.IssuerKey.TheVariants as issuers

abbrev pub issuer_part : IssuerKey → SshBasePublicKey
issuer_part (issuers.Private key) = public_part key
issuer_part (issuers.Public key) = key

-- a private key with its secret; one whose secret another device keeps by its public key
abbrev pub private_issuer : SshBasePrivateKey → Issuer
private_issuer (keys.Rsa n e d iqmp p q) = asked.Private (secrets.Rsa n e d iqmp p q)
private_issuer (keys.Ec curve point secret) = asked.Private (secrets.Ec curve point secret)
private_issuer (keys.Ed secret public) = asked.Private (secrets.Ed secret public)
private_issuer (keys.SkEcdsaSha2NistP256 point application flags handle) = asked.Public (plain.Ec NistP256 point)
private_issuer (keys.SkEd25519 key application flags handle) = asked.Public (plain.Ed key)

abbrev pub issuer_of : IssuerKey → Issuer
issuer_of (issuers.Private key) = private_issuer key
issuer_of (issuers.Public key) = asked.Public (public_key_of key)
