-- Nothing but what a blob's definition spells is a piece of it.
use Rattle.std.specs.Prelude.{◌≡◌, List, [], ℕ, ◌++◌}
use Rattle.std.proofs.Common.{sym, ◌∙◌, ap, subst, refl}
use Rattle.picky_wire_base.specs.Wire.{string_of, text}
use Rattle.picky_wire_base.specs.Numbers.{IsBytes}
use Rattle.picky_wire_base.proofs.Numbers.{bytes_in_front, bytes_behind}
use Rattle.picky_wire_base.proofs.Strings.{string_exact, text_exact}
use Rattle.picky_wire_base.specs.Mpint.{mpint}
use Rattle.picky_wire_base.proofs.MpintLaws.{mpint_exact}
use Rattle.picky_wire_base.proofs.Named.{named_exact}
use Rattle.picky_keys.specs.declared.kind.KeyKind.{KeyKind}
use Rattle.picky_keys.specs.declared.kind.KeyKind.TheVariants as kinds
use Rattle.picky_keys.specs.declared.curve.EcCurve.{EcCurve}
use Rattle.picky_keys.specs.declared.curve.EdAlgorithm.TheVariants.{Ed25519}
use Rattle.picky_keys.specs.KeyNameTables.{key_types}
use Rattle.picky_keys.specs.KeyNames.{kind_name}
use Rattle.picky_keys.proofs.KeyNames.{key_is_name}
use Rattle.picky_keys.specs.declared.key.SshBasePublicKey.{SshBasePublicKey}
use Rattle.picky_keys.specs.declared.key.SshBasePublicKey.TheVariants as keys
use Rattle.picky_keys.specs.Key.{kind_of}
use Rattle.picky_keys.specs.Blob.{key_type, ed_key, rsa_fields, ec_fields, ed_fields, sk_ecdsa_fields}
use Rattle.picky_keys.specs.Blob.{sk_ed_fields, public_key_fields, blob}
use Rattle.picky_keys.specs.BlobSpelled.{NumberSpelled, AnyText, FieldsSpelled, BlobSpelled}

pub number_exact : (v bytes : List ℕ) → IsBytes bytes → mpint.piece v bytes → NumberSpelled v bytes
number_exact v bytes each spells =
    let exact = mpint_exact v bytes each spells in
    record { zeros = exact.zeros; are = exact.are; short = exact.short }

pub any_text : (v bytes : List ℕ) → IsBytes bytes → text.piece v bytes → AnyText bytes
any_text v bytes each spells =
    let exact = text_exact v bytes each spells in
    record { name = v; are = exact.0; utf8 = exact.2 }

pub ed_exact : (v bytes : List ℕ) → IsBytes bytes → (ed_key 1).piece v bytes → bytes ≡ string_of v
unfolding ed_key
ed_exact v bytes each (a, spells, (len, is)) = (string_exact a bytes each spells).0 ∙ ap string_of (sym is)

-- two pieces joined, the second of which is known
pub joined_is : (bytes x y z : List ℕ) → bytes ≡ x ++ y → y ≡ z → bytes ≡ x ++ z
joined_is bytes x y z is same = is ∙ ap (λ r. x ++ r) same

pub first_is : (bytes x y z : List ℕ) → bytes ≡ x ++ y → x ≡ z → bytes ≡ z ++ y
first_is bytes x y z is same = is ∙ ap (λ l. l ++ y) same

rsa_exact : (key : SshBasePublicKey) (bytes : List ℕ) → IsBytes bytes → rsa_fields.piece key bytes
    → FieldsSpelled key bytes × (kind_of key ≡ kinds.Rsa)
unfolding rsa_fields
rsa_exact key bytes each (e, x, y, e_is, (n, z, w, n_is, (is, none), inner), outer) =
    let whole = subst IsBytes outer each in
    let rest = subst IsBytes inner (bytes_behind x y whole) in
    subst (λ k. FieldsSpelled k bytes × (kind_of k ≡ kinds.Rsa)) (sym is) (
      (
        x,
        z,
        number_exact e x (bytes_in_front x y whole) e_is,
        number_exact n z (bytes_in_front z w rest) n_is,
        joined_is bytes x y _ outer (joined_is y z w [] inner none),
      ),
      refl,
    )

ec_exact : (curve : EcCurve) (key : SshBasePublicKey) (bytes : List ℕ) → IsBytes bytes → (ec_fields curve).piece key bytes
    → FieldsSpelled key bytes × (kind_of key ≡ kinds.Ec curve)
unfolding ec_fields
ec_exact curve key bytes each (name, x, y, name_is, (point, z, w, point_is, (is, none), inner), outer) =
    let whole = subst IsBytes outer each in
    let rest = subst IsBytes inner (bytes_behind x y whole) in
    subst (λ k. FieldsSpelled k bytes × (kind_of k ≡ kinds.Ec curve)) (sym is) (
      (
        x,
        any_text name x (bytes_in_front x y whole) name_is,
        joined_is bytes x y _ outer (first_is y z [] _ (joined_is y z w [] inner none) (string_exact point z (bytes_in_front z w rest) point_is).0),
      ),
      refl,
    )

ed_fields_exact : (key : SshBasePublicKey) (bytes : List ℕ) → IsBytes bytes → ed_fields.piece key bytes
    → FieldsSpelled key bytes × (kind_of key ≡ kind_of (keys.Ed []))
unfolding ed_fields
ed_fields_exact key bytes each (v, x, y, v_is, (is, none), outer) =
    let whole = subst IsBytes outer each in
    subst (λ k. FieldsSpelled k bytes × (kind_of k ≡ kind_of (keys.Ed []))) (sym is) (
      first_is bytes x [] _ (joined_is bytes x y [] outer none) (ed_exact v x (bytes_in_front x y whole) v_is),
      refl,
    )

sk_ecdsa_exact : (key : SshBasePublicKey) (bytes : List ℕ) → IsBytes bytes → sk_ecdsa_fields.piece key bytes
    → FieldsSpelled key bytes × (kind_of key ≡ kinds.SkEcdsaSha2NistP256)
unfolding sk_ecdsa_fields
sk_ecdsa_exact key bytes each (name, x, y, name_is, (point, z, w, point_is, (app, u, v, app_is, (is, none), last), inner), outer) =
    let whole = subst IsBytes outer each in
    let rest = subst IsBytes inner (bytes_behind x y whole) in
    let end = subst IsBytes last (bytes_behind z w rest) in
    let app_spelled = first_is w u [] _ (joined_is w u v [] last none) (text_exact app u (bytes_in_front u v end) app_is).0 in
    let point_spelled = first_is y z w _ inner (string_exact point z (bytes_in_front z w rest) point_is).0 in
    subst (λ k. FieldsSpelled k bytes × (kind_of k ≡ kinds.SkEcdsaSha2NistP256)) (sym is) (
      (
        x,
        any_text name x (bytes_in_front x y whole) name_is,
        joined_is bytes x y _ outer (joined_is y (string_of point) w _ point_spelled app_spelled),
      ),
      refl,
    )

sk_ed_exact : (key : SshBasePublicKey) (bytes : List ℕ) → IsBytes bytes → sk_ed_fields.piece key bytes
    → FieldsSpelled key bytes × (kind_of key ≡ kinds.SkEd25519)
unfolding sk_ed_fields
sk_ed_exact key bytes each (v, x, y, v_is, (app, z, w, app_is, (is, none), inner), outer) =
    let whole = subst IsBytes outer each in
    let rest = subst IsBytes inner (bytes_behind x y whole) in
    let app_spelled = first_is y z [] _ (joined_is y z w [] inner none) (text_exact app z (bytes_in_front z w rest) app_is).0 in
    subst (λ k. FieldsSpelled k bytes × (kind_of k ≡ kinds.SkEd25519)) (sym is) (
      joined_is bytes (string_of v) y _ (first_is bytes x y _ outer (ed_exact v x (bytes_in_front x y whole) v_is)) app_spelled,
      refl,
    )

fields_exact : (kind : KeyKind) (key : SshBasePublicKey) (bytes : List ℕ) → IsBytes bytes
    → (public_key_fields kind).piece key bytes
    → FieldsSpelled key bytes × (kind_of key ≡ kind)
fields_exact kinds.Rsa key bytes each spells = rsa_exact key bytes each spells
fields_exact (kinds.Ec curve) key bytes each spells = ec_exact curve key bytes each spells
fields_exact (kinds.Ed Ed25519) key bytes each spells = ed_fields_exact key bytes each spells
fields_exact kinds.SkEcdsaSha2NistP256 key bytes each spells = sk_ecdsa_exact key bytes each spells
fields_exact kinds.SkEd25519 key bytes each spells = sk_ed_exact key bytes each spells

-- Nothing else is a piece.
pub blob_exact : (key : SshBasePublicKey) (bytes : List ℕ) → IsBytes bytes → blob.piece key bytes → BlobSpelled key bytes
unfolding blob key_type
blob_exact key bytes each (kind, x, y, kind_is, fields, joined) =
    let whole = subst IsBytes joined each in
    let exact = fields_exact kind key y (bytes_behind x y whole) fields in
    let name = named_exact 0 key_types kind x (bytes_in_front x y whole) kind_is ∙ ap string_of (key_is_name kind) in
    record {
      fields = y;
      spelled = exact.0;
      are = joined ∙ ap (λ n. n ++ y) (name ∙ ap (λ k. string_of (kind_name k)) (sym exact.1));
    }
