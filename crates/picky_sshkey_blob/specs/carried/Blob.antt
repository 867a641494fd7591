-- The one spelling that is written is a piece of the private key's blob.
use Rattle.std.specs.Prelude.{[], ◌++◌, ◌<◌, ◌^◌, length}
use Rattle.std.proofs.Common.{refl, arith}
use Rattle.std.proofs.lemmas.List.{length-append}
use Rattle.picky_wire_base.specs.Wire.{string_of}
use Rattle.picky_wire_base.proofs.Strings.{string_spells, text_spells}
use Rattle.picky_wire_base.proofs.Numbers.{byte_spells}
use Rattle.picky_wire_base.proofs.MpintLaws.{mpint_spells}
use Rattle.picky_keys.specs.KeyNames.{kind_name, curve_identifier}
use Rattle.picky_keys.specs.carried.KeyNamePieces.{kind_name_spells, identifier_spells}
use Rattle.picky_keys.specs.declared.curve.EcCurve.TheVariants.{NistP256}
use Rattle.picky_keys.specs.Blob.{key_type, ed_key}
use Rattle.picky_sshkey_blob.specs.declared.key.SshBasePrivateKey.{SshBasePrivateKey}
use Rattle.picky_sshkey_blob.specs.declared.key.SshBasePrivateKey.TheVariants as keys
use Rattle.picky_sshkey_blob.specs.Key.{IsPrivateKey, private_kind_of}
use Rattle.picky_sshkey_blob.specs.Blob.{ed_secret, private_rsa_fields, private_ec_fields, private_ed_fields}
use Rattle.picky_sshkey_blob.specs.Blob.{private_sk_ecdsa_fields, private_sk_ed_fields}
use Rattle.picky_sshkey_blob.specs.Blob.{private_key_fields, secret, private_fields_spelled, secret_of}

-- The canonical fields are a piece of the kind's layout.
pub fields_spell : (key : SshBasePrivateKey) → IsPrivateKey key
    → (private_key_fields (private_kind_of key)).piece key (private_fields_spelled key)
unfolding private_rsa_fields private_ec_fields private_ed_fields private_sk_ecdsa_fields private_sk_ed_fields ed_key ed_secret private_fields_spelled
fields_spell (keys.Rsa n e d iqmp p q) is = (
  n,
  _,
  _,
  mpint_spells n is.0.mpint,
  (
    e,
    _,
    _,
    mpint_spells e is.1.mpint,
    (
      d,
      _,
      _,
      mpint_spells d is.2.mpint,
      (
        iqmp,
        _,
        _,
        mpint_spells iqmp is.3.mpint,
        (
          p,
          _,
          _,
          mpint_spells p is.4.mpint,
          (
            q,
            _,
            _,
            mpint_spells q is.5.mpint,
            (refl, refl),
            refl,
          ),
          refl,
        ),
        refl,
      ),
      refl,
    ),
    refl,
  ),
  refl,
)
fields_spell (keys.Ec curve point number) is = (
  curve_identifier curve,
  _,
  _,
  identifier_spells curve,
  (point, _, _, string_spells point is.0.short, (number, _, _, mpint_spells number is.1.mpint, (refl, refl), refl), refl),
  refl,
)
fields_spell (keys.Ed seed public) is =
    let short : length (seed ++ public) < 2 ^ 32 = omega (arith, length-append seed public, is.0.len, is.1.len) in (
      public,
      _,
      _,
      (public, string_spells public (omega (arith, is.1.len)), (is.1.len, refl)),
      (seed, _, _, (seed ++ public, string_spells (seed ++ public) short, (refl, is.0.len)), (refl, refl), refl),
      refl,
    )
fields_spell (keys.SkEcdsaSha2NistP256 point application flags handle) is = (
  curve_identifier NistP256,
  _,
  _,
  identifier_spells NistP256,
  (
    point,
    _,
    _,
    string_spells point is.0.short,
    (
      application,
      _,
      _,
      text_spells application is.1.string.short is.1.utf8,
      (
        flags,
        _,
        _,
        byte_spells flags is.2,
        (
          handle,
          _,
          _,
          string_spells handle is.3.short,
          ([], _, _, string_spells [] (omega arith), (refl, refl), refl),
          refl,
        ),
        refl,
      ),
      refl,
    ),
    refl,
  ),
  refl,
)
fields_spell (keys.SkEd25519 key application flags handle) is = (
  key,
  _,
  _,
  (key, string_spells key (omega (arith, is.0.len)), (is.0.len, refl)),
  (
    application,
    _,
    _,
    text_spells application is.1.string.short is.1.utf8,
    (
      flags,
      _,
      _,
      byte_spells flags is.2,
      (
        handle,
        _,
        _,
        string_spells handle is.3.short,
        ([], _, _, string_spells [] (omega arith), (refl, refl), refl),
        refl,
      ),
      refl,
    ),
    refl,
  ),
  refl,
)

-- The canonical blob is a piece.
pub secret_spells : (key : SshBasePrivateKey) → IsPrivateKey key → secret.piece key (secret_of key)
unfolding secret key_type secret_of
secret_spells key is = (
  private_kind_of key,
  string_of (kind_name (private_kind_of key)),
  private_fields_spelled key,
  kind_name_spells 0 (private_kind_of key),
  fields_spell key is,
  refl,
)
