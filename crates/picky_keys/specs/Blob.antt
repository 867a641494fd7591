-- A public key's blob (RFC 4253, section 6.6; RFC 5656, section 3.1; RFC 8709, section 4; OpenSSH's PROTOCOL.u2f).
use Rattle.std.specs.Prelude.{List, [], ◌∷◌, ℕ, ◌++◌}
use Rattle.std.specs.List.{concat}
use Rattle.picky_wire_base.specs.Flaw.{Reason}
use Rattle.picky_wire_base.specs.Grammar.{Grammar}
use Rattle.picky_wire_base.specs.Combine.{at, done, ◌>>=◌}
use Rattle.picky_wire_base.specs.Wire.{string, string_of, text}
use Rattle.picky_wire_base.specs.Fixed.{sized}
use Rattle.picky_wire_base.specs.Mpint.{mpint, mpint_of}
use Rattle.picky_wire_base.specs.Named.{named}
use Rattle.picky_keys.specs.declared.curve.EcCurve.{EcCurve}
use Rattle.picky_keys.specs.declared.curve.EcCurve.TheVariants.{NistP256}
use Rattle.picky_keys.specs.declared.kind.KeyKind.{KeyKind}
use Rattle.picky_keys.specs.declared.kind.KeyKind.TheVariants as kinds
use Rattle.picky_keys.specs.KeyNameTables.{key_types}
use Rattle.picky_keys.specs.KeyNames.{kind_name, curve_identifier}
use Rattle.picky_keys.specs.declared.key.SshBasePublicKey.{SshBasePublicKey}
use Rattle.picky_keys.specs.declared.key.SshBasePublicKey.TheVariants as keys
use Rattle.picky_keys.specs.Key.{kind_of}

-- mpint e
-- mpint n
unfoldable pub rsa_fields : Grammar Reason SshBasePublicKey
rsa_fields = do
  e ← at 1 mpint
  n ← at 2 mpint
  done (keys.Rsa e n)

-- string identifier, which is text and says nothing more: the name says the curve
-- string point
unfoldable pub ec_fields : EcCurve → Grammar Reason SshBasePublicKey
ec_fields curve = do
  identifier ← at 1 text
  point ← at 2 string
  done (keys.Ec curve point)

-- a string of 32 bytes, as field i
unfoldable pub ed_key : ℕ → Grammar Reason (List ℕ)
ed_key i = sized i 32

-- string key
unfoldable pub ed_fields : Grammar Reason SshBasePublicKey
ed_fields = do
  key ← ed_key 1
  done (keys.Ed key)

-- string identifier, which is text and says nothing more
-- string point
-- string application, which is text
unfoldable pub sk_ecdsa_fields : Grammar Reason SshBasePublicKey
sk_ecdsa_fields = do
  identifier ← at 1 text
  point ← at 2 string
  application ← at 3 text
  done (keys.SkEcdsaSha2NistP256 point application)

-- string key
-- string application, which is text
unfoldable pub sk_ed_fields : Grammar Reason SshBasePublicKey
sk_ed_fields = do
  key ← ed_key 1
  application ← at 2 text
  done (keys.SkEd25519 key application)

-- the fields of each kind
abbrev pub public_key_fields : KeyKind → Grammar Reason SshBasePublicKey
public_key_fields kinds.Rsa = rsa_fields
public_key_fields (kinds.Ec curve) = ec_fields curve
public_key_fields (kinds.Ed algorithm) = ed_fields
public_key_fields kinds.SkEcdsaSha2NistP256 = sk_ecdsa_fields
public_key_fields kinds.SkEd25519 = sk_ed_fields

-- string name, of a key type
unfoldable pub key_type : Grammar Reason KeyKind
key_type = named 0 key_types

-- the name decides the rest
unfoldable pub blob : Grammar Reason SshBasePublicKey
blob = do
  kind ← key_type
  public_key_fields kind

-- ---- the one spelling that is written

-- the fields after the name
unfoldable pub fields_spelled : SshBasePublicKey → List ℕ
fields_spelled (keys.Rsa e n) = concat (mpint_of e ∷ mpint_of n ∷ [])
fields_spelled (keys.Ec curve point) =
    concat (string_of (curve_identifier curve) ∷ string_of point ∷ [])
fields_spelled (keys.Ed key) = concat (string_of key ∷ [])
fields_spelled (keys.SkEcdsaSha2NistP256 point application) =
    concat (string_of (curve_identifier NistP256) ∷ string_of point ∷ string_of application ∷ [])
fields_spelled (keys.SkEd25519 key application) =
    concat (string_of key ∷ string_of application ∷ [])

-- the whole blob
unfoldable pub blob_of : SshBasePublicKey → List ℕ
blob_of key = string_of (kind_name (kind_of key)) ++ fields_spelled key
