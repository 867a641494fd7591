-- What an SSH private key is made of, what holds of each value, and the public key in it (RFC 4251, section 5; PROTOCOL.key).
use Rattle.std.specs.Prelude.{◌<◌}
use Rattle.picky_keys.specs.declared.curve.EdAlgorithm.TheVariants.{Ed25519}
use Rattle.picky_keys.specs.declared.kind.KeyKind.{KeyKind}
use Rattle.picky_keys.specs.declared.kind.KeyKind.TheVariants as kinds
use Rattle.picky_keys.specs.declared.key.SshBasePublicKey.{SshBasePublicKey}
use Rattle.picky_keys.specs.declared.key.SshBasePublicKey.TheVariants as public_keys
use Rattle.picky_keys.specs.Key.{IsNumber, IsString, IsText, IsEdKey}
use Rattle.picky_sshkey_blob.specs.declared.key.SshBasePrivateKey.{SshBasePrivateKey}
use Rattle.picky_sshkey_blob.specs.declared.key.SshBasePrivateKey.TheVariants as keys

-- what holds of the parts of each key
abbrev pub IsPrivateKey : SshBasePrivateKey → Type 0
IsPrivateKey (keys.Rsa n e d iqmp p q) =
    IsNumber n × IsNumber e × IsNumber d × IsNumber iqmp × IsNumber p × IsNumber q
IsPrivateKey (keys.Ec curve point secret) = IsString point × IsNumber secret
IsPrivateKey (keys.Ed secret public) = IsEdKey secret × IsEdKey public
IsPrivateKey (keys.SkEcdsaSha2NistP256 point application flags handle) =
    IsString point × IsText application × (flags < 256) × IsString handle
IsPrivateKey (keys.SkEd25519 key application flags handle) =
    IsEdKey key × IsText application × (flags < 256) × IsString handle

-- the kind of a key
abbrev pub private_kind_of : SshBasePrivateKey → KeyKind
private_kind_of (keys.Rsa n e d iqmp p q) = kinds.Rsa
private_kind_of (keys.Ec curve point secret) = kinds.Ec curve
private_kind_of (keys.Ed secret public) = kinds.Ed Ed25519
private_kind_of (keys.SkEcdsaSha2NistP256 point application flags handle) = kinds.SkEcdsaSha2NistP256
private_kind_of (keys.SkEd25519 key application flags handle) = kinds.SkEd25519

-- the public key in it
abbrev pub public_part : SshBasePrivateKey → SshBasePublicKey
public_part (keys.Rsa n e d iqmp p q) = public_keys.Rsa e n
public_part (keys.Ec curve point secret) = public_keys.Ec curve point
public_part (keys.Ed secret public) = public_keys.Ed public
public_part (keys.SkEcdsaSha2NistP256 point application flags handle) =
    public_keys.SkEcdsaSha2NistP256 point application
public_part (keys.SkEd25519 key application flags handle) = public_keys.SkEd25519 key application
