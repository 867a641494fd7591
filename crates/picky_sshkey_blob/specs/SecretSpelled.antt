-- Which bytes spell which private key, field by field (OpenSSH's PROTOCOL.key; PROTOCOL.u2f).
use Rattle.std.specs.Prelude.{◌≡◌, List, [], ◌∷◌, ℕ, ◌++◌, ◌<◌, ◌^◌, length}
use Rattle.std.specs.Int.{w8, to_be_bytes}
use Rattle.std.specs.List.{concat}
use Rattle.picky_wire_base.specs.Row.{Row}
use Rattle.picky_wire_base.specs.Wire.{string_of}
use Rattle.picky_keys.specs.KeyNames.{kind_name}
use Rattle.picky_keys.specs.BlobSpelled.{NumberSpelled, AnyText}
use Rattle.picky_sshkey_blob.specs.declared.key.SshBasePrivateKey.{SshBasePrivateKey}
use Rattle.picky_sshkey_blob.specs.declared.key.SshBasePrivateKey.TheVariants as keys
use Rattle.picky_sshkey_blob.specs.Key.{private_kind_of}

-- the bytes of a reserved string, which may be any
pub record AnyString (bytes : List ℕ) : Type 0 where
  pub reserved : List ℕ
  pub are : bytes ≡ string_of reserved
  pub short : length reserved < 2 ^ 32

-- the bytes spell the fields of the key
abbrev pub SecretFieldsSpelled : SshBasePrivateKey → List ℕ → Type 0
SecretFieldsSpelled (keys.Rsa n e d iqmp p q) bytes = Row NumberSpelled (n ∷ e ∷ d ∷ iqmp ∷ p ∷ q ∷ []) bytes
SecretFieldsSpelled (keys.Ec curve point secret) bytes =
    (x : List ℕ) × (y : List ℕ) × AnyText x × NumberSpelled secret y × (bytes ≡ concat (x ∷ string_of point ∷ y ∷ []))
SecretFieldsSpelled (keys.Ed secret public) bytes =
    bytes ≡ concat (string_of public ∷ string_of (secret ++ public) ∷ [])
SecretFieldsSpelled (keys.SkEcdsaSha2NistP256 point application flags handle) bytes =
    (x : List ℕ) × (y : List ℕ) × AnyText x × AnyString y
    × (bytes ≡ concat (x ∷ string_of point ∷ string_of application ∷ to_be_bytes w8 flags ∷ string_of handle ∷ y ∷ []))
SecretFieldsSpelled (keys.SkEd25519 key application flags handle) bytes =
    (y : List ℕ) × AnyString y
    × (bytes ≡ concat (string_of key ∷ string_of application ∷ to_be_bytes w8 flags ∷ string_of handle ∷ y ∷ []))

-- the bytes spell the key: its name, and then its fields
pub record SecretSpelled (key : SshBasePrivateKey) (bytes : List ℕ) : Type 0 where
  pub fields : List ℕ
  pub spelled : SecretFieldsSpelled key fields
  pub are : bytes ≡ string_of (kind_name (private_kind_of key)) ++ fields
