-- How long the blob of a public key is at most whose parts have at most 256 bytes each.
use Rattle.std.proofs.Common.{◌≤◌, [], ◌∷◌, length, arith}
use Rattle.std.proofs.lemmas.List.{length-append}
use Rattle.picky_wire_base.specs.Mpint.{mpint_of}
use Rattle.picky_wire_base.specs.Wire.{string_of}
use Rattle.picky_keys.specs.declared.curve.EcCurve.{EcCurve}
use Rattle.picky_keys.specs.declared.curve.EcCurve.TheVariants.{NistP256, NistP384, NistP521}
use Rattle.picky_keys.specs.declared.curve.EdAlgorithm.TheVariants.{Ed25519}
use Rattle.picky_keys.specs.declared.kind.KeyKind.{KeyKind}
use Rattle.picky_keys.specs.declared.kind.KeyKind.TheVariants as kinds
use Rattle.picky_keys.specs.KeyNames.{curve_identifier, curve_key_type, ed_key_type, kind_name}
use Rattle.picky_keys.specs.declared.key.SshBasePublicKey.{SshBasePublicKey}
use Rattle.picky_keys.specs.declared.key.SshBasePublicKey.TheVariants as keys
use Rattle.picky_keys.specs.Blob.{blob_of, fields_spelled}
use Rattle.picky_keys.specs.Key.{kind_of}
use Rattle.picky_wire_base.proofs.PieceLemmas.{length-string_of}
use Rattle.picky_convert.proofs.TextSizes.{concat_size, mpint_size}

-- ---- names

pub identifier_size : (curve : EcCurve) → length (curve_identifier curve) ≤ 64
unfolding curve_identifier
identifier_size NistP256 = omega arith
identifier_size NistP384 = omega arith
identifier_size NistP521 = omega arith

pub name_size : (kind : KeyKind) → length (kind_name kind) ≤ 64
unfolding kind_name curve_key_type ed_key_type
name_size kinds.Rsa = omega arith
name_size (kinds.Ec NistP256) = omega arith
name_size (kinds.Ec NistP384) = omega arith
name_size (kinds.Ec NistP521) = omega arith
name_size (kinds.Ed Ed25519) = omega arith
name_size kinds.SkEcdsaSha2NistP256 = omega arith
name_size kinds.SkEd25519 = omega arith

-- ---- blobs

-- each part has at most 256 bytes
abbrev pub IsSmall : SshBasePublicKey → Type 0
IsSmall (keys.Rsa e n) = (length e ≤ 256) × (length n ≤ 256)
IsSmall (keys.Ec curve point) = length point ≤ 256
IsSmall (keys.Ed key) = length key ≤ 256
IsSmall (keys.SkEcdsaSha2NistP256 point application) = (length point ≤ 256) × (length application ≤ 256)
IsSmall (keys.SkEd25519 key application) = (length key ≤ 256) × (length application ≤ 256)

fields_size : (key : SshBasePublicKey) → IsSmall key → length (fields_spelled key) ≤ 700
unfolding fields_spelled
fields_size (keys.Rsa e n) small =
    omega (
      arith,
      small.0,
      small.1,
      concat_size (mpint_of e) (mpint_of n ∷ []),
      concat_size (mpint_of n) [],
      mpint_size e,
      mpint_size n,
    )
fields_size (keys.Ec curve point) small =
    omega (
      arith,
      small,
      concat_size (string_of (curve_identifier curve)) (string_of point ∷ []),
      concat_size (string_of point) [],
      length-string_of (curve_identifier curve),
      length-string_of point,
      identifier_size curve,
    )
fields_size (keys.Ed key) small = omega (arith, small, concat_size (string_of key) [], length-string_of key)
fields_size (keys.SkEcdsaSha2NistP256 point application) small =
    omega (
      arith,
      small.0,
      small.1,
      concat_size (string_of (curve_identifier NistP256)) (string_of point ∷ string_of application ∷ []),
      concat_size (string_of point) (string_of application ∷ []),
      concat_size (string_of application) [],
      length-string_of (curve_identifier NistP256),
      length-string_of point,
      length-string_of application,
      identifier_size NistP256,
    )
fields_size (keys.SkEd25519 key application) small =
    omega (
      arith,
      small.0,
      small.1,
      concat_size (string_of key) (string_of application ∷ []),
      concat_size (string_of application) [],
      length-string_of key,
      length-string_of application,
    )

pub blob_size : (key : SshBasePublicKey) → IsSmall key → length (blob_of key) ≤ 800
unfolding blob_of
blob_size key small =
    omega (
      arith,
      length-append (string_of (kind_name (kind_of key))) (fields_spelled key),
      length-string_of (kind_name (kind_of key)),
      name_size (kind_of key),
      fields_size key small,
    )
