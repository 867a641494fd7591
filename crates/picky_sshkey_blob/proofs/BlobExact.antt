-- Nothing but what a private key's definition spells is a piece of its blob.
use Rattle.std.specs.Prelude.{◌≡◌, List, [], ℕ, ◌++◌}
use Rattle.std.proofs.Common.{sym, ◌∙◌, ap, subst, refl}
use Rattle.picky_wire_base.specs.Wire.{string, string_of}
use Rattle.picky_wire_base.specs.Numbers.{IsBytes}
use Rattle.picky_wire_base.proofs.Numbers.{bytes_in_front, bytes_behind, byte_exact}
use Rattle.picky_wire_base.proofs.Strings.{string_exact, text_exact}
use Rattle.picky_wire_base.proofs.Named.{named_exact}
use Rattle.picky_keys.specs.declared.kind.KeyKind.{KeyKind}
use Rattle.picky_keys.specs.declared.kind.KeyKind.TheVariants as kinds
use Rattle.picky_keys.specs.declared.curve.EcCurve.{EcCurve}
use Rattle.picky_keys.specs.declared.curve.EdAlgorithm.TheVariants.{Ed25519}
use Rattle.picky_keys.specs.KeyNameTables.{key_types}
use Rattle.picky_keys.specs.KeyNames.{kind_name}
use Rattle.picky_keys.proofs.KeyNames.{key_is_name}
use Rattle.picky_keys.specs.Blob.{key_type}
use Rattle.picky_keys.proofs.BlobExact.{number_exact, any_text, ed_exact, joined_is}
use Rattle.picky_sshkey_blob.specs.declared.key.SshBasePrivateKey.{SshBasePrivateKey}
use Rattle.picky_sshkey_blob.specs.Key.{private_kind_of}
use Rattle.picky_sshkey_blob.specs.Blob.{ed_secret, private_rsa_fields, private_ec_fields, private_ed_fields, private_sk_ecdsa_fields, private_sk_ed_fields}
use Rattle.picky_sshkey_blob.specs.Blob.{private_key_fields, secret}
use Rattle.picky_sshkey_blob.specs.SecretSpelled.{AnyString, SecretFieldsSpelled, SecretSpelled}

any_string : (v bytes : List ℕ) → IsBytes bytes → string.piece v bytes → AnyString bytes
any_string v bytes each spells =
    let exact = string_exact v bytes each spells in
    record { reserved = v; are = exact.0; short = exact.1 }

secret_exact_of : (public v bytes : List ℕ) → IsBytes bytes → (ed_secret public).piece v bytes
    → bytes ≡ string_of (v ++ public)
unfolding ed_secret
secret_exact_of public v bytes each (both, spells, (are, len)) =
    (string_exact both bytes each spells).0 ∙ ap string_of are

-- two pieces joined, both of which are known
parts_are : (bytes x y v w : List ℕ) → bytes ≡ x ++ y → x ≡ v → y ≡ w → bytes ≡ v ++ w
parts_are bytes x y v w is first second = is ∙ ap (λ l. l ++ y) first ∙ ap (λ r. v ++ r) second

-- the key is what the fields make, and has the kind
abbrev Spells : KeyKind → SshBasePrivateKey → List ℕ → Type 0
Spells kind key bytes = SecretFieldsSpelled key bytes × (private_kind_of key ≡ kind)

rsa_exact : (key : SshBasePrivateKey) (bytes : List ℕ) → IsBytes bytes → private_rsa_fields.piece key bytes → Spells kinds.Rsa key bytes
unfolding private_rsa_fields
rsa_exact key bytes each (n, x1, y1, n_is, (e, x2, y2, e_is, (d, x3, y3, d_is, (iqmp, x4, y4, iqmp_is, (p, x5, y5, p_is, (q, x6, y6, q_is, (is, none), j6), j5), j4), j3), j2), j1) =
    let b1 = subst IsBytes j1 each in
    let b2 = subst IsBytes j2 (bytes_behind x1 y1 b1) in
    let b3 = subst IsBytes j3 (bytes_behind x2 y2 b2) in
    let b4 = subst IsBytes j4 (bytes_behind x3 y3 b3) in
    let b5 = subst IsBytes j5 (bytes_behind x4 y4 b4) in
    let b6 = subst IsBytes j6 (bytes_behind x5 y5 b5) in
    subst (λ k. Spells kinds.Rsa k bytes) (sym is) (
      (
        x1,
        y1,
        number_exact n x1 (bytes_in_front x1 y1 b1) n_is,
        (
          x2,
          y2,
          number_exact e x2 (bytes_in_front x2 y2 b2) e_is,
          (
            x3,
            y3,
            number_exact d x3 (bytes_in_front x3 y3 b3) d_is,
            (
              x4,
              y4,
              number_exact iqmp x4 (bytes_in_front x4 y4 b4) iqmp_is,
              (
                x5,
                y5,
                number_exact p x5 (bytes_in_front x5 y5 b5) p_is,
                (x6, y6, number_exact q x6 (bytes_in_front x6 y6 b6) q_is, none, j6),
                j5,
              ),
              j4,
            ),
            j3,
          ),
          j2,
        ),
        j1,
      ),
      refl,
    )

ec_exact : (curve : EcCurve) (key : SshBasePrivateKey) (bytes : List ℕ) → IsBytes bytes → (private_ec_fields curve).piece key bytes
    → Spells (kinds.Ec curve) key bytes
unfolding private_ec_fields
ec_exact curve key bytes each (name, x1, y1, name_is, (point, x2, y2, point_is, (number, x3, y3, number_is, (is, none), j3), j2), j1) =
    let b1 = subst IsBytes j1 each in
    let b2 = subst IsBytes j2 (bytes_behind x1 y1 b1) in
    let b3 = subst IsBytes j3 (bytes_behind x2 y2 b2) in
    let last = joined_is y2 x3 y3 [] j3 none in
    let rest = parts_are y1 x2 y2 _ _ j2 (string_exact point x2 (bytes_in_front x2 y2 b2) point_is).0 last in
    subst (λ k. Spells (kinds.Ec curve) k bytes) (sym is) (
      (
        x1,
        x3,
        any_text name x1 (bytes_in_front x1 y1 b1) name_is,
        number_exact number x3 (bytes_in_front x3 y3 b3) number_is,
        joined_is bytes x1 y1 _ j1 rest,
      ),
      refl,
    )

ed_fields_exact : (key : SshBasePrivateKey) (bytes : List ℕ) → IsBytes bytes → private_ed_fields.piece key bytes
    → Spells (kinds.Ed Ed25519) key bytes
unfolding private_ed_fields
ed_fields_exact key bytes each (public, x1, y1, public_is, (seed, x2, y2, seed_is, (is, none), j2), j1) =
    let b1 = subst IsBytes j1 each in
    let b2 = subst IsBytes j2 (bytes_behind x1 y1 b1) in
    let rest = parts_are y1 x2 y2 _ _ j2 (secret_exact_of public seed x2 (bytes_in_front x2 y2 b2) seed_is) none in
    subst (λ k. Spells (kinds.Ed Ed25519) k bytes) (sym is) (
      parts_are bytes x1 y1 _ _ j1 (ed_exact public x1 (bytes_in_front x1 y1 b1) public_is) rest,
      refl,
    )

sk_ecdsa_exact : (key : SshBasePrivateKey) (bytes : List ℕ) → IsBytes bytes → private_sk_ecdsa_fields.piece key bytes
    → Spells kinds.SkEcdsaSha2NistP256 key bytes
unfolding private_sk_ecdsa_fields
sk_ecdsa_exact key bytes each (name, x1, y1, name_is, (point, x2, y2, point_is, (application, x3, y3, application_is, (flags, x4, y4, flags_is, (handle, x5, y5, handle_is, (reserved, x6, y6, reserved_is, (is, none), j6), j5), j4), j3), j2), j1) =
    let b1 = subst IsBytes j1 each in
    let b2 = subst IsBytes j2 (bytes_behind x1 y1 b1) in
    let b3 = subst IsBytes j3 (bytes_behind x2 y2 b2) in
    let b4 = subst IsBytes j4 (bytes_behind x3 y3 b3) in
    let b5 = subst IsBytes j5 (bytes_behind x4 y4 b4) in
    let b6 = subst IsBytes j6 (bytes_behind x5 y5 b5) in
    let r5 = joined_is y5 x6 y6 [] j6 none in
    let r4 = parts_are y4 x5 y5 _ _ j5 (string_exact handle x5 (bytes_in_front x5 y5 b5) handle_is).0 r5 in
    let r3 = parts_are y3 x4 y4 _ _ j4 (byte_exact flags x4 (bytes_in_front x4 y4 b4) flags_is).0 r4 in
    let r2 = parts_are y2 x3 y3 _ _ j3 (text_exact application x3 (bytes_in_front x3 y3 b3) application_is).0 r3 in
    let r1 = parts_are y1 x2 y2 _ _ j2 (string_exact point x2 (bytes_in_front x2 y2 b2) point_is).0 r2 in
    subst (λ k. Spells kinds.SkEcdsaSha2NistP256 k bytes) (sym is) (
      (
        x1,
        x6,
        any_text name x1 (bytes_in_front x1 y1 b1) name_is,
        any_string reserved x6 (bytes_in_front x6 y6 b6) reserved_is,
        joined_is bytes x1 y1 _ j1 r1,
      ),
      refl,
    )

sk_ed_exact : (key : SshBasePrivateKey) (bytes : List ℕ) → IsBytes bytes → private_sk_ed_fields.piece key bytes
    → Spells kinds.SkEd25519 key bytes
unfolding private_sk_ed_fields
sk_ed_exact key bytes each (public, x1, y1, public_is, (application, x2, y2, application_is, (flags, x3, y3, flags_is, (handle, x4, y4, handle_is, (reserved, x5, y5, reserved_is, (is, none), j5), j4), j3), j2), j1) =
    let b1 = subst IsBytes j1 each in
    let b2 = subst IsBytes j2 (bytes_behind x1 y1 b1) in
    let b3 = subst IsBytes j3 (bytes_behind x2 y2 b2) in
    let b4 = subst IsBytes j4 (bytes_behind x3 y3 b3) in
    let b5 = subst IsBytes j5 (bytes_behind x4 y4 b4) in
    let r4 = joined_is y4 x5 y5 [] j5 none in
    let r3 = parts_are y3 x4 y4 _ _ j4 (string_exact handle x4 (bytes_in_front x4 y4 b4) handle_is).0 r4 in
    let r2 = parts_are y2 x3 y3 _ _ j3 (byte_exact flags x3 (bytes_in_front x3 y3 b3) flags_is).0 r3 in
    let r1 = parts_are y1 x2 y2 _ _ j2 (text_exact application x2 (bytes_in_front x2 y2 b2) application_is).0 r2 in
    subst (λ k. Spells kinds.SkEd25519 k bytes) (sym is) (
      (
        x5,
        any_string reserved x5 (bytes_in_front x5 y5 b5) reserved_is,
        parts_are bytes x1 y1 _ _ j1 (ed_exact public x1 (bytes_in_front x1 y1 b1) public_is) r1,
      ),
      refl,
    )

fields_exact : (kind : KeyKind) (key : SshBasePrivateKey) (bytes : List ℕ) → IsBytes bytes
    → (private_key_fields kind).piece key bytes
    → Spells kind key bytes
fields_exact kinds.Rsa key bytes each spells = rsa_exact key bytes each spells
fields_exact (kinds.Ec curve) key bytes each spells = ec_exact curve key bytes each spells
fields_exact (kinds.Ed Ed25519) key bytes each spells = ed_fields_exact key bytes each spells
fields_exact kinds.SkEcdsaSha2NistP256 key bytes each spells = sk_ecdsa_exact key bytes each spells
fields_exact kinds.SkEd25519 key bytes each spells = sk_ed_exact key bytes each spells

-- Nothing else is a piece.
pub secret_exact : (key : SshBasePrivateKey) (bytes : List ℕ) → IsBytes bytes → secret.piece key bytes → SecretSpelled key bytes
unfolding secret key_type
secret_exact key bytes each (kind, x, y, kind_is, fields, joined) =
    let whole = subst IsBytes joined each in
    let exact = fields_exact kind key y (bytes_behind x y whole) fields in
    let name = named_exact 0 key_types kind x (bytes_in_front x y whole) kind_is ∙ ap string_of (key_is_name kind) in
    record {
      fields = y;
      spelled = exact.0;
      are = joined ∙ ap (λ n. n ++ y) (name ∙ ap (λ k. string_of (kind_name k)) (sym exact.1));
    }
