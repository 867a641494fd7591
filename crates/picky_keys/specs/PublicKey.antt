-- What a public key shows whose parts another value keeps.
use Rattle.picky_keys.specs.declared.public_key.PublicKey.{PublicKey}
use Rattle.picky_keys.specs.declared.public_key.PublicKey.TheVariants as plain
use Rattle.picky_keys.specs.declared.public_key.PublicKeyRef.{PublicKeyRef}
use Rattle.picky_keys.specs.declared.public_key.PublicKeyRef.TheVariants as refs

-- the key that the parts make
abbrev pub key_shown : PublicKeyRef → PublicKey
key_shown (refs.Rsa e n) = plain.Rsa e.now n.now
key_shown (refs.Ec curve point) = plain.Ec curve point.now
key_shown (refs.Ed key) = plain.Ed key.now
