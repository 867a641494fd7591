-- A private key that is read keeps what its type promises, and so does the public key in it.
use Rattle.std.specs.Prelude.{◌≡◌, List, ℕ}
use Rattle.std.proofs.Common.{refl, sym, subst}
use Rattle.picky_wire_base.specs.Numbers.{IsBytes}
use Rattle.picky_wire_base.proofs.Numbers.{bytes_in_front, bytes_behind, byte_exact}
use Rattle.picky_keys.specs.declared.kind.KeyKind.{KeyKind}
use Rattle.picky_keys.specs.declared.kind.KeyKind.TheVariants as kinds
use Rattle.picky_keys.specs.declared.curve.EcCurve.{EcCurve}
use Rattle.picky_keys.specs.Key.{IsKey, IsEdKey, kind_of}
use Rattle.picky_keys.proofs.KeyLaws.{number_keeps, string_keeps, text_keeps, ed_keeps}
use Rattle.picky_sshkey_blob.specs.declared.key.SshBasePrivateKey.{SshBasePrivateKey}
use Rattle.picky_sshkey_blob.specs.declared.key.SshBasePrivateKey.TheVariants as keys
use Rattle.picky_sshkey_blob.specs.Key.{IsPrivateKey, private_kind_of, public_part}
use Rattle.picky_sshkey_blob.specs.Blob.{ed_secret, private_rsa_fields, private_ec_fields, private_ed_fields, private_sk_ecdsa_fields, private_sk_ed_fields}
use Rattle.picky_sshkey_blob.specs.Blob.{private_key_fields, secret}

-- the secret before a copy of the public key
secret_keeps : (public v bytes : List ℕ) → IsBytes bytes → (ed_secret public).piece v bytes → IsEdKey v
unfolding ed_secret
secret_keeps public v bytes each (both, spells, (are, len)) =
    record { bytes = bytes_in_front v public (subst IsBytes are (string_keeps both bytes each spells).bytes); len = len }

rsa_keeps : (key : SshBasePrivateKey) (bytes : List ℕ) → IsBytes bytes → private_rsa_fields.piece key bytes → IsPrivateKey key
unfolding private_rsa_fields
rsa_keeps key bytes each (n, x1, y1, n_is, (e, x2, y2, e_is, (d, x3, y3, d_is, (iqmp, x4, y4, iqmp_is, (p, x5, y5, p_is, (q, x6, y6, q_is, (is, none), j6), j5), j4), j3), j2), j1) =
    let b1 = subst IsBytes j1 each in
    let b2 = subst IsBytes j2 (bytes_behind x1 y1 b1) in
    let b3 = subst IsBytes j3 (bytes_behind x2 y2 b2) in
    let b4 = subst IsBytes j4 (bytes_behind x3 y3 b3) in
    let b5 = subst IsBytes j5 (bytes_behind x4 y4 b4) in
    let b6 = subst IsBytes j6 (bytes_behind x5 y5 b5) in
    subst IsPrivateKey (sym is) (
      number_keeps n x1 (bytes_in_front x1 y1 b1) n_is,
      number_keeps e x2 (bytes_in_front x2 y2 b2) e_is,
      number_keeps d x3 (bytes_in_front x3 y3 b3) d_is,
      number_keeps iqmp x4 (bytes_in_front x4 y4 b4) iqmp_is,
      number_keeps p x5 (bytes_in_front x5 y5 b5) p_is,
      number_keeps q x6 (bytes_in_front x6 y6 b6) q_is,
    )

ec_keeps : (curve : EcCurve) (key : SshBasePrivateKey) (bytes : List ℕ) → IsBytes bytes → (private_ec_fields curve).piece key bytes
    → IsPrivateKey key
unfolding private_ec_fields
ec_keeps curve key bytes each (name, x1, y1, name_is, (point, x2, y2, point_is, (number, x3, y3, number_is, (is, none), j3), j2), j1) =
    let b2 = subst IsBytes j2 (bytes_behind x1 y1 (subst IsBytes j1 each)) in
    let b3 = subst IsBytes j3 (bytes_behind x2 y2 b2) in
    subst IsPrivateKey (sym is) (
      string_keeps point x2 (bytes_in_front x2 y2 b2) point_is,
      number_keeps number x3 (bytes_in_front x3 y3 b3) number_is,
    )

ed_fields_keep : (key : SshBasePrivateKey) (bytes : List ℕ) → IsBytes bytes → private_ed_fields.piece key bytes → IsPrivateKey key
unfolding private_ed_fields
ed_fields_keep key bytes each (public, x1, y1, public_is, (seed, x2, y2, seed_is, (is, none), j2), j1) =
    let b1 = subst IsBytes j1 each in
    let b2 = subst IsBytes j2 (bytes_behind x1 y1 b1) in
    subst IsPrivateKey (sym is) (
      secret_keeps public seed x2 (bytes_in_front x2 y2 b2) seed_is,
      ed_keeps public x1 (bytes_in_front x1 y1 b1) public_is,
    )

sk_ecdsa_keeps : (key : SshBasePrivateKey) (bytes : List ℕ) → IsBytes bytes → private_sk_ecdsa_fields.piece key bytes
    → IsPrivateKey key
unfolding private_sk_ecdsa_fields
sk_ecdsa_keeps key bytes each (name, x1, y1, name_is, (point, x2, y2, point_is, (application, x3, y3, application_is, (flags, x4, y4, flags_is, (handle, x5, y5, handle_is, (reserved, x6, y6, reserved_is, (is, none), j6), j5), j4), j3), j2), j1) =
    let b2 = subst IsBytes j2 (bytes_behind x1 y1 (subst IsBytes j1 each)) in
    let b3 = subst IsBytes j3 (bytes_behind x2 y2 b2) in
    let b4 = subst IsBytes j4 (bytes_behind x3 y3 b3) in
    let b5 = subst IsBytes j5 (bytes_behind x4 y4 b4) in
    subst IsPrivateKey (sym is) (
      string_keeps point x2 (bytes_in_front x2 y2 b2) point_is,
      text_keeps application x3 (bytes_in_front x3 y3 b3) application_is,
      (byte_exact flags x4 (bytes_in_front x4 y4 b4) flags_is).1,
      string_keeps handle x5 (bytes_in_front x5 y5 b5) handle_is,
    )

sk_ed_keeps : (key : SshBasePrivateKey) (bytes : List ℕ) → IsBytes bytes → private_sk_ed_fields.piece key bytes → IsPrivateKey key
unfolding private_sk_ed_fields
sk_ed_keeps key bytes each (public, x1, y1, public_is, (application, x2, y2, application_is, (flags, x3, y3, flags_is, (handle, x4, y4, handle_is, (reserved, x5, y5, reserved_is, (is, none), j5), j4), j3), j2), j1) =
    let b1 = subst IsBytes j1 each in
    let b2 = subst IsBytes j2 (bytes_behind x1 y1 b1) in
    let b3 = subst IsBytes j3 (bytes_behind x2 y2 b2) in
    let b4 = subst IsBytes j4 (bytes_behind x3 y3 b3) in
    subst IsPrivateKey (sym is) (
      ed_keeps public x1 (bytes_in_front x1 y1 b1) public_is,
      text_keeps application x2 (bytes_in_front x2 y2 b2) application_is,
      (byte_exact flags x3 (bytes_in_front x3 y3 b3) flags_is).1,
      string_keeps handle x4 (bytes_in_front x4 y4 b4) handle_is,
    )

fields_keep : (kind : KeyKind) (key : SshBasePrivateKey) (bytes : List ℕ) → IsBytes bytes
    → (private_key_fields kind).piece key bytes
    → IsPrivateKey key
fields_keep kinds.Rsa key bytes each spells = rsa_keeps key bytes each spells
fields_keep (kinds.Ec curve) key bytes each spells = ec_keeps curve key bytes each spells
fields_keep (kinds.Ed algorithm) key bytes each spells = ed_fields_keep key bytes each spells
fields_keep kinds.SkEcdsaSha2NistP256 key bytes each spells = sk_ecdsa_keeps key bytes each spells
fields_keep kinds.SkEd25519 key bytes each spells = sk_ed_keeps key bytes each spells

-- What bytes spell is a key.
pub spelled_is_key : (key : SshBasePrivateKey) (bytes : List ℕ) → IsBytes bytes → secret.piece key bytes → IsPrivateKey key
unfolding secret
spelled_is_key key bytes each (kind, x, y, kind_is, fields, joined) =
    fields_keep kind key y (bytes_behind x y (subst IsBytes joined each)) fields

-- The public key in a key is one.
pub public_part_is_key : (key : SshBasePrivateKey) → IsPrivateKey key → IsKey (public_part key)
public_part_is_key (keys.Rsa n e d iqmp p q) is = (is.1, is.0)
public_part_is_key (keys.Ec curve point number) is = is.0
public_part_is_key (keys.Ed seed public) is = is.1
public_part_is_key (keys.SkEcdsaSha2NistP256 point application flags handle) is = (is.0, is.1)
public_part_is_key (keys.SkEd25519 key application flags handle) is = (is.0, is.1)

-- a private key is of the kind of its public part
pub same_kind : (key : SshBasePrivateKey) → private_kind_of key ≡ kind_of (public_part key)
same_kind (keys.Rsa n e d iqmp p q) = refl
same_kind (keys.Ec curve point secret) = refl
same_kind (keys.Ed secret public) = refl
same_kind (keys.SkEcdsaSha2NistP256 point application flags handle) = refl
same_kind (keys.SkEd25519 key application flags handle) = refl
