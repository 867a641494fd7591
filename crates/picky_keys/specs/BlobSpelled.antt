-- Which bytes spell which key, field by field (RFC 4253, section 6.6; RFC 5656, section 3.1; RFC 8709, section 4; PROTOCOL.u2f).
use Rattle.std.specs.Prelude.{◌≡◌, List, [], ◌∷◌, ℕ, ◌+◌, ◌++◌, ◌<◌, ◌^◌, length, replicate, IsUtf8}
use Rattle.std.specs.List.{concat}
use Rattle.picky_wire_base.specs.Wire.{string_of}
use Rattle.picky_keys.specs.KeyNames.{kind_name}
use Rattle.picky_keys.specs.declared.key.SshBasePublicKey.{SshBasePublicKey}
use Rattle.picky_keys.specs.declared.key.SshBasePublicKey.TheVariants as keys
use Rattle.picky_keys.specs.Key.{kind_of}

-- a number's string, where zeros may stand in front of it
pub record NumberSpelled (v bytes : List ℕ) : Type 0 where
  pub zeros : ℕ
  pub are : bytes ≡ string_of (replicate zeros 0 ++ v)
  pub short : zeros + length v < 2 ^ 32

-- a curve's name that is read, which may be any text
pub record AnyText (bytes : List ℕ) : Type 0 where
  pub name : List ℕ
  pub are : bytes ≡ string_of name
  pub utf8 : IsUtf8 name

-- the bytes spell the fields of the key
abbrev pub FieldsSpelled : SshBasePublicKey → List ℕ → Type 0
FieldsSpelled (keys.Rsa e n) bytes =
    (x : List ℕ) × (y : List ℕ) × NumberSpelled e x × NumberSpelled n y × (bytes ≡ concat (x ∷ y ∷ []))
FieldsSpelled (keys.Ec curve point) bytes =
    (x : List ℕ) × AnyText x × (bytes ≡ concat (x ∷ string_of point ∷ []))
FieldsSpelled (keys.Ed key) bytes = bytes ≡ concat (string_of key ∷ [])
FieldsSpelled (keys.SkEcdsaSha2NistP256 point application) bytes =
    (x : List ℕ) × AnyText x × (bytes ≡ concat (x ∷ string_of point ∷ string_of application ∷ []))
FieldsSpelled (keys.SkEd25519 key application) bytes =
    bytes ≡ concat (string_of key ∷ string_of application ∷ [])

-- the bytes spell the key: its name, and then its fields
pub record BlobSpelled (key : SshBasePublicKey) (bytes : List ℕ) : Type 0 where
  pub fields : List ℕ
  pub spelled : FieldsSpelled key fields
  pub are : bytes ≡ string_of (kind_name (kind_of key)) ++ fields
