-- The issuer that a device is asked to sign for has the issuer's public key.
use Rattle.std.specs.Prelude.{◌≡◌}
use Rattle.std.proofs.Common.{refl}
use Rattle.picky_keys.specs.PrivateKey.{issuer_key}
use Rattle.picky_keys.specs.Key.{public_key_of}
use Rattle.picky_sshkey_blob.specs.declared.key.SshBasePrivateKey.{SshBasePrivateKey}
use Rattle.picky_sshkey_blob.specs.declared.key.SshBasePrivateKey.TheVariants as keys
use Rattle.picky_sshkey_blob.specs.Key.{public_part}
use Rattle.picky_cert_builder.specs.declared.issuer.IssuerKey.{IssuerKey}
use Rattle.picky_cert_builder.specs.declared.issuer.IssuerKey.TheVariants as issuers
use Rattle.picky_cert_builder.specs.Issuer.{issuer_of, issuer_part, private_issuer}

private_issuer_key : (key : SshBasePrivateKey) → issuer_key (private_issuer key) ≡ public_key_of (public_part key)
private_issuer_key (keys.Rsa n e d iqmp p q) = refl
private_issuer_key (keys.Ec curve point secret) = refl
private_issuer_key (keys.Ed secret public) = refl
private_issuer_key (keys.SkEcdsaSha2NistP256 point application flags handle) = refl
private_issuer_key (keys.SkEd25519 key application flags handle) = refl

pub issuer_key_of : (issuer : IssuerKey) → issuer_key (issuer_of issuer) ≡ public_key_of (issuer_part issuer)
issuer_key_of (issuers.Private key) = private_issuer_key key
issuer_key_of (issuers.Public key) = refl
