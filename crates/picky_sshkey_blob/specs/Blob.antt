-- A private key's blob (OpenSSH's PROTOCOL.key; PROTOCOL.u2f).
use Rattle.std.specs.Prelude.{List, [], ◌∷◌, ℕ, ◌++◌}
use Rattle.std.specs.Int.{w8, to_be_bytes}
use Rattle.std.specs.List.{concat}
use Rattle.picky_wire_base.specs.Flaw.{Reason, Length}
use Rattle.picky_wire_base.specs.Grammar.{Grammar}
use Rattle.picky_wire_base.specs.Combine.{at, done, narrow, ◌>>=◌}
use Rattle.picky_wire_base.specs.Wire.{string, string_of, text}
use Rattle.picky_wire_base.specs.Numbers.{byte}
use Rattle.picky_wire_base.specs.Mpint.{mpint, mpint_of}
use Rattle.picky_keys.specs.declared.curve.EcCurve.{EcCurve}
use Rattle.picky_keys.specs.declared.curve.EcCurve.TheVariants.{NistP256}
use Rattle.picky_keys.specs.declared.kind.KeyKind.{KeyKind}
use Rattle.picky_keys.specs.declared.kind.KeyKind.TheVariants as kinds
use Rattle.picky_keys.specs.KeyNames.{kind_name, curve_identifier}
use Rattle.picky_keys.specs.Blob.{key_type, ed_key}
use Rattle.picky_sshkey_blob.specs.declared.key.SshBasePrivateKey.{SshBasePrivateKey}
use Rattle.picky_sshkey_blob.specs.declared.key.SshBasePrivateKey.TheVariants as keys
use Rattle.picky_sshkey_blob.specs.Key.{private_kind_of}
use Rattle.picky_sshkey_blob.specs.Copy.{before_copy}

-- mpint n
-- mpint e
-- mpint d
-- mpint iqmp, which is the inverse of q modulo p
-- mpint p
-- mpint q
unfoldable pub private_rsa_fields : Grammar Reason SshBasePrivateKey
private_rsa_fields = do
  n ← at 1 mpint
  e ← at 2 mpint
  d ← at 3 mpint
  iqmp ← at 4 mpint
  p ← at 5 mpint
  q ← at 6 mpint
  done (keys.Rsa n e d iqmp p q)

-- string identifier, which is text and says nothing more: the name says the curve
-- string point
-- mpint secret
unfoldable pub private_ec_fields : EcCurve → Grammar Reason SshBasePrivateKey
private_ec_fields curve = do
  identifier ← at 1 text
  point ← at 2 string
  secret ← at 3 mpint
  done (keys.Ec curve point secret)

-- a string of 64 bytes: the 32 of the secret, and then those of the public key again
unfoldable pub ed_secret : List ℕ → Grammar Reason (List ℕ)
ed_secret public = narrow (at 2 string) (before_copy (2, Length) public)

-- string public, of 32 bytes
-- string secret and public
unfoldable pub private_ed_fields : Grammar Reason SshBasePrivateKey
private_ed_fields = do
  public ← ed_key 1
  secret ← ed_secret public
  done (keys.Ed secret public)

-- string identifier, which is text and says nothing more
-- string point
-- string application, which is text
-- byte flags
-- string handle
-- string reserved, which says nothing
unfoldable pub private_sk_ecdsa_fields : Grammar Reason SshBasePrivateKey
private_sk_ecdsa_fields = do
  identifier ← at 1 text
  point ← at 2 string
  application ← at 3 text
  flags ← at 4 byte
  handle ← at 5 string
  reserved ← at 6 string
  done (keys.SkEcdsaSha2NistP256 point application flags handle)

-- string key, of 32 bytes
-- string application, which is text
-- byte flags
-- string handle
-- string reserved, which says nothing
unfoldable pub private_sk_ed_fields : Grammar Reason SshBasePrivateKey
private_sk_ed_fields = do
  key ← ed_key 1
  application ← at 2 text
  flags ← at 3 byte
  handle ← at 4 string
  reserved ← at 5 string
  done (keys.SkEd25519 key application flags handle)

-- the fields of each kind
abbrev pub private_key_fields : KeyKind → Grammar Reason SshBasePrivateKey
private_key_fields kinds.Rsa = private_rsa_fields
private_key_fields (kinds.Ec curve) = private_ec_fields curve
private_key_fields (kinds.Ed algorithm) = private_ed_fields
private_key_fields kinds.SkEcdsaSha2NistP256 = private_sk_ecdsa_fields
private_key_fields kinds.SkEd25519 = private_sk_ed_fields

-- string name, of a key type, which decides the rest
unfoldable pub secret : Grammar Reason SshBasePrivateKey
secret = do
  kind ← key_type
  private_key_fields kind

-- ---- the one spelling that is written, whose reserved string is empty

-- the fields after the name
unfoldable pub private_fields_spelled : SshBasePrivateKey → List ℕ
private_fields_spelled (keys.Rsa n e d iqmp p q) =
    concat (mpint_of n ∷ mpint_of e ∷ mpint_of d ∷ mpint_of iqmp ∷ mpint_of p ∷ mpint_of q ∷ [])
private_fields_spelled (keys.Ec curve point secret) =
    concat (string_of (curve_identifier curve) ∷ string_of point ∷ mpint_of secret ∷ [])
private_fields_spelled (keys.Ed secret public) =
    concat (string_of public ∷ string_of (secret ++ public) ∷ [])
private_fields_spelled (keys.SkEcdsaSha2NistP256 point application flags handle) =
    concat (string_of (curve_identifier NistP256) ∷ string_of point ∷ string_of application
    ∷ to_be_bytes w8 flags ∷ string_of handle ∷ string_of [] ∷ [])
private_fields_spelled (keys.SkEd25519 key application flags handle) =
    concat (string_of key ∷ string_of application ∷ to_be_bytes w8 flags ∷ string_of handle ∷ string_of [] ∷ [])

-- the whole blob
unfoldable pub secret_of : SshBasePrivateKey → List ℕ
secret_of key = string_of (kind_name (private_kind_of key)) ++ private_fields_spelled key
