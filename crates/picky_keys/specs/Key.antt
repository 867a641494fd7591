-- What an SSH public key is made of, and what holds of each value (RFC 4251, section 5).
use Rattle.std.specs.Prelude.{◌≡◌, List, ℕ, ◌<◌, ◌^◌, Bool, true, false, length, IsUtf8}
use Rattle.picky_wire_base.specs.Numbers.{IsBytes}
use Rattle.picky_wire_base.specs.Magnitude.{IsMagnitude}
use Rattle.picky_keys.specs.declared.curve.EcCurve.TheVariants.{NistP256}
use Rattle.picky_keys.specs.declared.curve.EdAlgorithm.TheVariants.{Ed25519}
use Rattle.picky_keys.specs.declared.kind.KeyKind.{KeyKind}
use Rattle.picky_keys.specs.declared.kind.KeyKind.TheVariants as kinds
use Rattle.picky_keys.specs.declared.public_key.PublicKey.{PublicKey}
use Rattle.picky_keys.specs.declared.public_key.PublicKey.TheVariants as plain
use Rattle.picky_keys.specs.declared.key.SshBasePublicKey.{SshBasePublicKey}
use Rattle.picky_keys.specs.declared.key.SshBasePublicKey.TheVariants as keys

-- a number as its bytes, a string, a text and an Ed25519 key
pub record IsNumber (v : List ℕ) : Type 0 where
  pub bytes : IsBytes v
  pub mpint : IsMagnitude v

pub record IsString (v : List ℕ) : Type 0 where
  pub bytes : IsBytes v
  pub short : length v < 2 ^ 32

pub record IsText (v : List ℕ) : Type 0 where
  pub string : IsString v
  pub utf8 : IsUtf8 v

pub record IsEdKey (v : List ℕ) : Type 0 where
  pub bytes : IsBytes v
  pub len : length v ≡ 32

-- what holds of the parts of each key
abbrev pub IsKey : SshBasePublicKey → Type 0
IsKey (keys.Rsa e n) = IsNumber e × IsNumber n
IsKey (keys.Ec curve point) = IsString point
IsKey (keys.Ed key) = IsEdKey key
IsKey (keys.SkEcdsaSha2NistP256 point application) = IsString point × IsText application
IsKey (keys.SkEd25519 key application) = IsEdKey key × IsText application

-- the kind of a key
abbrev pub kind_of : SshBasePublicKey → KeyKind
kind_of (keys.Rsa e n) = kinds.Rsa
kind_of (keys.Ec curve point) = kinds.Ec curve
kind_of (keys.Ed key) = kinds.Ed Ed25519
kind_of (keys.SkEcdsaSha2NistP256 point application) = kinds.SkEcdsaSha2NistP256
kind_of (keys.SkEd25519 key application) = kinds.SkEd25519

-- a device keeps the secret of keys of this kind
abbrev pub is_security_key_kind : KeyKind → Bool
is_security_key_kind kinds.Rsa = false
is_security_key_kind (kinds.Ec curve) = false
is_security_key_kind (kinds.Ed algorithm) = false
is_security_key_kind kinds.SkEcdsaSha2NistP256 = true
is_security_key_kind kinds.SkEd25519 = true

-- the key without the application
abbrev pub public_key_of : SshBasePublicKey → PublicKey
public_key_of (keys.Rsa e n) = plain.Rsa e n
public_key_of (keys.Ec curve point) = plain.Ec curve point
public_key_of (keys.Ed key) = plain.Ed key
public_key_of (keys.SkEcdsaSha2NistP256 point application) = plain.Ec NistP256 point
public_key_of (keys.SkEd25519 key application) = plain.Ed key
