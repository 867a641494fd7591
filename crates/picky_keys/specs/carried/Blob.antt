-- The one spelling that is written is a piece of the blob.
use Rattle.std.proofs.Common.{refl, arith}
use Rattle.picky_wire_base.specs.Wire.{string_of}
use Rattle.picky_wire_base.proofs.Strings.{string_spells, text_spells}
use Rattle.picky_wire_base.proofs.MpintLaws.{mpint_spells}
use Rattle.picky_keys.specs.KeyNames.{kind_name, curve_identifier}
use Rattle.picky_keys.specs.carried.KeyNamePieces.{kind_name_spells, identifier_spells}
use Rattle.picky_keys.specs.declared.curve.EcCurve.TheVariants.{NistP256}
use Rattle.picky_keys.specs.declared.key.SshBasePublicKey.{SshBasePublicKey}
use Rattle.picky_keys.specs.declared.key.SshBasePublicKey.TheVariants as keys
use Rattle.picky_keys.specs.Key.{IsKey, kind_of}
use Rattle.picky_keys.specs.Blob.{key_type, ed_key, rsa_fields, ec_fields, ed_fields, sk_ecdsa_fields}
use Rattle.picky_keys.specs.Blob.{sk_ed_fields, public_key_fields, blob, fields_spelled, blob_of}

-- The canonical fields are a piece of the kind's layout.
pub fields_spell : (key : SshBasePublicKey) → IsKey key
    → (public_key_fields (kind_of key)).piece key (fields_spelled key)
unfolding rsa_fields ec_fields ed_fields sk_ecdsa_fields sk_ed_fields ed_key fields_spelled
fields_spell (keys.Rsa e n) is =
    (e, _, _, mpint_spells e is.0.mpint, (n, _, _, mpint_spells n is.1.mpint, (refl, refl), refl), refl)
fields_spell (keys.Ec curve point) is = (
  curve_identifier curve,
  _,
  _,
  identifier_spells curve,
  (point, _, _, string_spells point is.short, (refl, refl), refl),
  refl,
)
fields_spell (keys.Ed key) is =
    (key, _, _, (key, string_spells key (omega (arith, is.len)), (is.len, refl)), (refl, refl), refl)
fields_spell (keys.SkEcdsaSha2NistP256 point application) is = (
  curve_identifier NistP256,
  _,
  _,
  identifier_spells NistP256,
  (
    point,
    _,
    _,
    string_spells point is.0.short,
    (application, _, _, text_spells application is.1.string.short is.1.utf8, (refl, refl), refl),
    refl,
  ),
  refl,
)
fields_spell (keys.SkEd25519 key application) is = (
  key,
  _,
  _,
  (key, string_spells key (omega (arith, is.0.len)), (is.0.len, refl)),
  (application, _, _, text_spells application is.1.string.short is.1.utf8, (refl, refl), refl),
  refl,
)

-- The canonical blob is a piece.
pub blob_spells : (key : SshBasePublicKey) → IsKey key → blob.piece key (blob_of key)
unfolding blob key_type blob_of
blob_spells key is = (
  kind_of key,
  string_of (kind_name (kind_of key)),
  fields_spelled key,
  kind_name_spells 0 (kind_of key),
  fields_spell key is,
  refl,
)
