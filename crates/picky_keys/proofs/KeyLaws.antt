-- A key that is read keeps what its type promises: the ranges of its numbers, strings and texts.
use Rattle.std.specs.Prelude.{◌≡◌, List, ℕ, ◌++◌, length, replicate, Ok}
use Rattle.std.specs.Int.{w32, to_be_bytes}
use Rattle.std.proofs.Common.{sym, subst}
use Rattle.picky_wire_base.specs.Numbers.{IsBytes}
use Rattle.picky_wire_base.proofs.Numbers.{bytes_in_front, bytes_behind}
use Rattle.picky_wire_base.specs.Wire.{string, string_of, text}
use Rattle.picky_wire_base.proofs.Strings.{string_exact, text_exact}
use Rattle.picky_wire_base.proofs.Fixed.{sized_exact}
use Rattle.picky_wire_base.specs.Mpint.{mpint}
use Rattle.picky_wire_base.proofs.MpintLaws.{mpint_exact}
use Rattle.picky_keys.specs.declared.kind.KeyKind.{KeyKind}
use Rattle.picky_keys.specs.declared.kind.KeyKind.TheVariants as kinds
use Rattle.picky_keys.specs.declared.curve.EcCurve.{EcCurve}
use Rattle.picky_keys.specs.declared.key.SshBasePublicKey.{SshBasePublicKey}
use Rattle.picky_keys.specs.Key.{IsNumber, IsString, IsText, IsEdKey, IsKey}
use Rattle.picky_keys.specs.Blob.{ed_key, rsa_fields, ec_fields, ed_fields, sk_ecdsa_fields, sk_ed_fields}
use Rattle.picky_keys.specs.Blob.{public_key_fields, blob}
use Rattle.picky_keys.specs.BlobRefusal.{read_blob}
use Rattle.picky_keys.proofs.BlobLayout.{blob_sound}

-- ---- a field that is read keeps the range of its type

string_content : (v : List ℕ) → IsBytes (string_of v) → IsBytes v
unfolding string_of
string_content v each = bytes_behind (to_be_bytes w32 (length v)) v each

pub number_keeps : (v bytes : List ℕ) → IsBytes bytes → mpint.piece v bytes → IsNumber v
number_keeps v bytes each spells =
    let exact = mpint_exact v bytes each spells in
    record {
      bytes = bytes_behind (replicate exact.zeros 0) v
          (string_content (replicate exact.zeros 0 ++ v) (subst IsBytes exact.are each));
      mpint = exact.mpint;
    }

pub string_keeps : (v bytes : List ℕ) → IsBytes bytes → string.piece v bytes → IsString v
string_keeps v bytes each spells =
    let exact = string_exact v bytes each spells in
    record { bytes = string_content v (subst IsBytes exact.0 each); short = exact.1 }

pub text_keeps : (v bytes : List ℕ) → IsBytes bytes → text.piece v bytes → IsText v
text_keeps v bytes each spells =
    let exact = text_exact v bytes each spells in
    record {
      string = record { bytes = string_content v (subst IsBytes exact.0 each); short = exact.1 };
      utf8 = exact.2;
    }

pub ed_keeps : (v bytes : List ℕ) → IsBytes bytes → (ed_key 1).piece v bytes → IsEdKey v
unfolding ed_key
ed_keeps v bytes each spells =
    let exact = sized_exact 1 32 v bytes each spells in
    record { bytes = string_content v (subst IsBytes exact.0 each); len = exact.1 }

-- ---- so does a key

rsa_keeps : (key : SshBasePublicKey) (bytes : List ℕ) → IsBytes bytes → rsa_fields.piece key bytes → IsKey key
unfolding rsa_fields
rsa_keeps key bytes each (e, x, y, e_is, (n, z, w, n_is, (is, none), inner), outer) =
    let whole = subst IsBytes outer each in
    let rest = subst IsBytes inner (bytes_behind x y whole) in
    subst IsKey (sym is) (
      number_keeps e x (bytes_in_front x y whole) e_is,
      number_keeps n z (bytes_in_front z w rest) n_is,
    )

ec_keeps : (curve : EcCurve) (key : SshBasePublicKey) (bytes : List ℕ) → IsBytes bytes → (ec_fields curve).piece key bytes
    → IsKey key
unfolding ec_fields
ec_keeps curve key bytes each (name, x, y, name_is, (point, z, w, point_is, (is, none), inner), outer) =
    let rest = subst IsBytes inner (bytes_behind x y (subst IsBytes outer each)) in
    subst IsKey (sym is) (string_keeps point z (bytes_in_front z w rest) point_is)

ed_fields_keep : (key : SshBasePublicKey) (bytes : List ℕ) → IsBytes bytes → ed_fields.piece key bytes → IsKey key
unfolding ed_fields
ed_fields_keep key bytes each (v, x, y, v_is, (is, none), outer) =
    subst IsKey (sym is) (ed_keeps v x (bytes_in_front x y (subst IsBytes outer each)) v_is)

sk_ecdsa_keeps : (key : SshBasePublicKey) (bytes : List ℕ) → IsBytes bytes → sk_ecdsa_fields.piece key bytes → IsKey key
unfolding sk_ecdsa_fields
sk_ecdsa_keeps key bytes each (name, x, y, name_is, (point, z, w, point_is, (app, u, v, app_is, (is, none), last), inner), outer) =
    let rest = subst IsBytes inner (bytes_behind x y (subst IsBytes outer each)) in
    let end = subst IsBytes last (bytes_behind z w rest) in
    subst IsKey (sym is) (
      string_keeps point z (bytes_in_front z w rest) point_is,
      text_keeps app u (bytes_in_front u v end) app_is,
    )

sk_ed_keeps : (key : SshBasePublicKey) (bytes : List ℕ) → IsBytes bytes → sk_ed_fields.piece key bytes → IsKey key
unfolding sk_ed_fields
sk_ed_keeps key bytes each (v, x, y, v_is, (app, z, w, app_is, (is, none), inner), outer) =
    let whole = subst IsBytes outer each in
    let rest = subst IsBytes inner (bytes_behind x y whole) in
    subst IsKey (sym is) (
      ed_keeps v x (bytes_in_front x y whole) v_is,
      text_keeps app z (bytes_in_front z w rest) app_is,
    )

-- So do its fields.
pub fields_keep : (kind : KeyKind) (key : SshBasePublicKey) (bytes : List ℕ) → IsBytes bytes
    → (public_key_fields kind).piece key bytes
    → IsKey key
fields_keep kinds.Rsa key bytes each spells = rsa_keeps key bytes each spells
fields_keep (kinds.Ec curve) key bytes each spells = ec_keeps curve key bytes each spells
fields_keep (kinds.Ed algorithm) key bytes each spells = ed_fields_keep key bytes each spells
fields_keep kinds.SkEcdsaSha2NistP256 key bytes each spells = sk_ecdsa_keeps key bytes each spells
fields_keep kinds.SkEd25519 key bytes each spells = sk_ed_keeps key bytes each spells

-- What bytes spell is a key.
pub spelled_is_key : (key : SshBasePublicKey) (bytes : List ℕ) → IsBytes bytes → blob.piece key bytes → IsKey key
unfolding blob
spelled_is_key key bytes each (kind, x, y, kind_is, fields, joined) =
    fields_keep kind key y (bytes_behind x y (subst IsBytes joined each)) fields

-- So does a key that is read.
pub read_is_key : (bytes : List ℕ) (key : SshBasePublicKey) (rest : List ℕ) → IsBytes bytes
    → read_blob bytes ≡ Ok (key, rest) → IsKey key
read_is_key bytes key rest each read =
    let fits = blob_sound bytes key rest read in
    spelled_is_key key fits.0 (bytes_in_front fits.0 rest (subst IsBytes fits.2 each)) fits.1
