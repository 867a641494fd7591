-- The public part of a private key, and of an issuer.
use Rattle.picky_keys.specs.declared.public_key.PublicKey.{PublicKey}
use Rattle.picky_keys.specs.declared.public_key.PublicKey.TheVariants as plain
use Rattle.picky_keys.specs.declared.private_key.PrivateKey.{PrivateKey}
use Rattle.picky_keys.specs.declared.private_key.PrivateKey.TheVariants as secrets
use Rattle.picky_keys.specs.declared.private_key.Issuer.{Issuer}
use Rattle.picky_keys.specs.declared.private_key.Issuer.TheVariants as issuers

-- the public fields of a private key
abbrev pub public_fields : PrivateKey → PublicKey
public_fields (secrets.Rsa n e d iqmp p q) = plain.Rsa e n
public_fields (secrets.Ec curve point secret) = plain.Ec curve point
public_fields (secrets.Ed secret public) = plain.Ed public

-- the public key of an issuer
abbrev pub issuer_key : Issuer → PublicKey
issuer_key (issuers.Private key) = public_fields key
issuer_key (issuers.Public key) = key
