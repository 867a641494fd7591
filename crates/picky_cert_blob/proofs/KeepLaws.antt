-- What is read before a signature keeps the ranges of its parts, and its type is for the kind of its subject's key.
use Rattle.std.specs.Prelude.{◌≡◌, List, [], ◌∷◌, ℕ, ◌++◌, ◌<◌, ◌^◌, All, Option, Some, None, Ok}
use Rattle.std.proofs.{Common.{refl, sym, ◌∙◌, ap, subst, arith}, lemmas.List.{append-nil}}
use Rattle.std.proofs.lemmas.List.Elements.{All-cons}
use Rattle.picky_wire_base.specs.{Grammar.{Grammar}, Row.{Row}, Numbers.{IsBytes}, Wire.{string}}
use Rattle.picky_wire_base.proofs.{Numbers.{bytes_in_front, bytes_behind, uint64_exact}, Strings.{text_exact}}
use Rattle.picky_wire.specs.{declared.timestamp.Timestamp.{Timestamp}, Principals.{IsPrincipal}}
use Rattle.picky_keys.specs.{declared.curve.EdAlgorithm.TheVariants.{Ed25519}, declared.kind.KeyKind.{KeyKind}}
use Rattle.picky_keys.specs.{declared.key.SshBasePublicKey.{SshBasePublicKey}, Key.{IsKey, kind_of}}
use Rattle.picky_keys.specs.Blob.{rsa_fields, ec_fields, ed_fields, sk_ecdsa_fields, sk_ed_fields, public_key_fields}
use Rattle.picky_keys.specs.declared.kind.KeyKind.TheVariants as kinds
use Rattle.picky_keys.proofs.KeyLaws.{string_keeps, text_keeps, fields_keep, spelled_is_key}
use Rattle.picky_cert_parts.specs.declared.cert_key_type.SshCertKeyType.{SshCertKeyType}
use Rattle.picky_cert_parts.specs.declared.critical_option.SshCriticalOption.{SshCriticalOption}
use Rattle.picky_cert_parts.specs.declared.extension.SshExtension.{SshExtension}
use Rattle.picky_cert_parts.specs.{CriticalOption.{critical_option, IsCriticalOption}, Extension.{extension, IsExtension}}
use Rattle.picky_cert_parts.proofs.SpellingLaws.{option_keeps, extension_keeps}
use Rattle.picky_cert_blob.specs.Items.{principal_item, option_item, extension_item}
use Rattle.picky_cert_blob.specs.Layout.{Body, Grants, Head, Terms, body, grants, head, head_for, head_of, terms, principals}
use Rattle.picky_cert_blob.specs.Layout.{valid_after, valid_before, critical_options, extensions, issuer}
use Rattle.picky_cert_blob.specs.{Subject.{subject_kind}, Keeps.{IsHead, IsTerms, IsGrants, IsBody, FitsSubject}}

-- ---- rows

-- what holds of what is read holds of each piece
of_piece : {E A : Type 0} (G : Grammar E A) (P : A → Type 0)
    → ((bytes : List ℕ) (v : A) (rest : List ℕ) → IsBytes bytes → G.read bytes ≡ Ok (v, rest) → P v)
    → (v : A) (bytes : List ℕ) → IsBytes bytes → G.piece v bytes → P v
of_piece G P kept v bytes each spells =
    kept (bytes ++ []) v [] (subst IsBytes (sym (append-nil bytes)) each) (G.complete v bytes [] spells)

-- what holds of the value of each piece holds of each value of a row
row_keeps : {A : Type 0} (piece : A → List ℕ → Type 0) (P : A → Type 0)
    → ((v : A) (bytes : List ℕ) → IsBytes bytes → piece v bytes → P v)
    → (vs : List A) (bytes : List ℕ) → IsBytes bytes → Row piece vs bytes → All P vs
row_keeps piece P kept [] bytes each row = λ k d below. absurd (omega arith)
row_keeps piece P kept (v ∷ vs) bytes each (x, y, spells, row, are) =
    let whole = subst IsBytes are each in
    All-cons P v vs (kept v x (bytes_in_front x y whole) spells) (row_keeps piece P kept vs y (bytes_behind x y whole) row)

-- so of the values of a list inside a string
list_keeps : {A : Type 0} (piece : A → List ℕ → Type 0) (P : A → Type 0)
    → ((v : A) (bytes : List ℕ) → IsBytes bytes → piece v bytes → P v)
    → (vs : List A) (block bytes : List ℕ) → IsBytes bytes → string.piece block bytes → Row piece vs block → All P vs
list_keeps piece P kept vs block bytes each string_is row =
    row_keeps piece P kept vs block (string_keeps block bytes each string_is).bytes row

principal_keeps : (v bytes : List ℕ) → IsBytes bytes → principal_item.piece v bytes → IsPrincipal v
unfolding principal_item
principal_keeps v bytes each spells =
    let exact = text_exact v bytes each spells in
    record { short = exact.1; utf8 = exact.2 }

principals_keep : (vs : List (List ℕ)) (bytes : List ℕ) → IsBytes bytes → principals.piece vs bytes → All IsPrincipal vs
unfolding principals
principals_keep vs bytes each (block, string_is, row) =
    list_keeps principal_item.piece IsPrincipal principal_keeps vs block bytes each string_is row

option_keeps_it : (o : SshCriticalOption) (bytes : List ℕ) → IsBytes bytes → option_item.piece o bytes → IsCriticalOption o
unfolding option_item
option_keeps_it o bytes each spells = of_piece critical_option IsCriticalOption option_keeps o bytes each spells

options_keep : (vs : List SshCriticalOption) (bytes : List ℕ) → IsBytes bytes → critical_options.piece vs bytes → All IsCriticalOption vs
unfolding critical_options
options_keep vs bytes each (block, string_is, row) =
    list_keeps option_item.piece IsCriticalOption option_keeps_it vs block bytes each string_is row

extension_keeps_it : (x : SshExtension) (bytes : List ℕ) → IsBytes bytes → extension_item.piece x bytes → IsExtension x
unfolding extension_item
extension_keeps_it x bytes each spells = of_piece extension IsExtension extension_keeps x bytes each spells

extensions_keep : (vs : List SshExtension) (bytes : List ℕ) → IsBytes bytes → extensions.piece vs bytes → All IsExtension vs
unfolding extensions
extensions_keep vs bytes each (block, string_is, row) =
    list_keeps extension_item.piece IsExtension extension_keeps_it vs block bytes each string_is row

-- ---- who is certified

-- the fields of a kind are those of a key of that kind
kind_kept : (kind : KeyKind) (key : SshBasePublicKey) (bytes : List ℕ) → (public_key_fields kind).piece key bytes
    → kind_of key ≡ kind
unfolding rsa_fields ec_fields ed_fields sk_ecdsa_fields sk_ed_fields
kind_kept kinds.Rsa key bytes (e, x, y, e_is, (n, z, w, n_is, (is, none), inner), outer) = ap kind_of is
kind_kept (kinds.Ec curve) key bytes (name, x, y, name_is, (point, z, w, point_is, (is, none), inner), outer) = ap kind_of is
kind_kept (kinds.Ed Ed25519) key bytes (v, x, y, v_is, (is, none), outer) = ap kind_of is
kind_kept kinds.SkEcdsaSha2NistP256 key bytes (name, x, y, name_is, (point, z, w, point_is, (app, u, v, app_is, (is, none), last), inner), outer) =
    ap kind_of is
kind_kept kinds.SkEd25519 key bytes (v, x, y, v_is, (app, z, w, app_is, (is, none), inner), outer) = ap kind_of is

head_for_keeps : (t : SshCertKeyType) (kind : KeyKind) (h : Head) (bytes : List ℕ) → IsBytes bytes → subject_kind t ≡ Some kind
    → (head_for t kind).piece h bytes → IsHead h × FitsSubject h
unfolding head_for
head_for_keeps t kind h bytes each is_for (nonce, x, y, nonce_is, (key, z, w, key_is, (is, none), inner), outer) =
    let whole = subst IsBytes outer each in
    let rest = subst IsBytes inner (bytes_behind x y whole) in
    subst (λ v. IsHead v × FitsSubject v) (sym is) (
      record {
        nonce = string_keeps nonce x (bytes_in_front x y whole) nonce_is;
        key = fields_keep kind key z (bytes_in_front z w rest) key_is;
      },
      is_for ∙ ap Some (sym (kind_kept kind key z key_is)),
    )

head_of_keeps : (t : SshCertKeyType) (kind : Option KeyKind) (h : Head) (bytes : List ℕ) → IsBytes bytes → subject_kind t ≡ kind
    → (head_of t kind).piece h bytes → IsHead h × FitsSubject h
head_of_keeps t (Some kind) h bytes each is_for spells = head_for_keeps t kind h bytes each is_for spells
head_of_keeps t None h bytes each is_for spells = absurd spells

head_keeps : (h : Head) (bytes : List ℕ) → IsBytes bytes → head.piece h bytes → IsHead h × FitsSubject h
unfolding head
head_keeps h bytes each (t, x, y, name_is, rest_is, joined) =
    head_of_keeps t (subject_kind t) h y (bytes_behind x y (subst IsBytes joined each)) refl rest_is

-- ---- for what and how long

after_keeps : (t : Timestamp) (bytes : List ℕ) → IsBytes bytes → valid_after.piece t bytes → t.0 < 2 ^ 64
unfolding valid_after
after_keeps t bytes each (secs, spells, is) =
    subst (λ (m : Timestamp). m.0 < 2 ^ 64) is (uint64_exact secs bytes each spells).1

before_keeps : (t : Timestamp) (bytes : List ℕ) → IsBytes bytes → valid_before.piece t bytes → t.0 < 2 ^ 64
unfolding valid_before
before_keeps t bytes each (secs, spells, is) =
    subst (λ (m : Timestamp). m.0 < 2 ^ 64) is (uint64_exact secs bytes each spells).1

terms_keep : (t : Terms) (bytes : List ℕ) → IsBytes bytes → terms.piece t bytes → IsTerms t
unfolding terms
terms_keep t bytes each (serial, x1, y1, serial_is, (cert_type, x2, y2, type_is, (key_id, x3, y3, key_id_is, (names, x4, y4, names_are, (after, x5, y5, after_is, (before, x6, y6, before_is, (is, none), j6), j5), j4), j3), j2), j1) =
    let b1 = subst IsBytes j1 each in
    let b2 = subst IsBytes j2 (bytes_behind x1 y1 b1) in
    let b3 = subst IsBytes j3 (bytes_behind x2 y2 b2) in
    let b4 = subst IsBytes j4 (bytes_behind x3 y3 b3) in
    let b5 = subst IsBytes j5 (bytes_behind x4 y4 b4) in
    let b6 = subst IsBytes j6 (bytes_behind x5 y5 b5) in
    subst IsTerms (sym is) (record {
      serial = (uint64_exact serial x1 (bytes_in_front x1 y1 b1) serial_is).1;
      key_id = text_keeps key_id x3 (bytes_in_front x3 y3 b3) key_id_is;
      principals = principals_keep names x4 (bytes_in_front x4 y4 b4) names_are;
      after = after_keeps after x5 (bytes_in_front x5 y5 b5) after_is;
      before = before_keeps before x6 (bytes_in_front x6 y6 b6) before_is;
    })

-- ---- what is granted, and by whom

issuer_keeps : (key : SshBasePublicKey) (bytes : List ℕ) → IsBytes bytes → issuer.piece key bytes → IsKey key
unfolding issuer
issuer_keeps key bytes each (block, string_is, (rest, (front, spells, same))) =
    let inside = subst IsBytes same (string_keeps block bytes each string_is).bytes in
    spelled_is_key key front (bytes_in_front front rest inside) spells

grants_keep : (g : Grants) (bytes : List ℕ) → IsBytes bytes → grants.piece g bytes → IsGrants g
unfolding grants
grants_keep g bytes each (options, x1, y1, options_are, (more, x2, y2, more_are, (reserved, x3, y3, reserved_is, (key, x4, y4, key_is, (is, none), j4), j3), j2), j1) =
    let b1 = subst IsBytes j1 each in
    let b2 = subst IsBytes j2 (bytes_behind x1 y1 b1) in
    let b3 = subst IsBytes j3 (bytes_behind x2 y2 b2) in
    let b4 = subst IsBytes j4 (bytes_behind x3 y3 b3) in
    subst IsGrants (sym is) (record {
      options = options_keep options x1 (bytes_in_front x1 y1 b1) options_are;
      extensions = extensions_keep more x2 (bytes_in_front x2 y2 b2) more_are;
      issuer = issuer_keeps key x4 (bytes_in_front x4 y4 b4) key_is;
    })

-- ---- all before the signature

-- What is spelled keeps its ranges, and its type is for the kind of its subject's key.
pub body_keeps : (b : Body) (bytes : List ℕ) → IsBytes bytes → body.piece b bytes → IsBody b × FitsSubject b.head
unfolding body
body_keeps b bytes each (h, x1, y1, h_is, (t, x2, y2, t_is, (g, x3, y3, g_is, (is, none), j3), j2), j1) =
    let b1 = subst IsBytes j1 each in
    let b2 = subst IsBytes j2 (bytes_behind x1 y1 b1) in
    let b3 = subst IsBytes j3 (bytes_behind x2 y2 b2) in
    let of_head = head_keeps h x1 (bytes_in_front x1 y1 b1) h_is in
    subst (λ (v : Body). IsBody v × FitsSubject v.head) (sym is) (
      record {
        head = of_head.0;
        terms = terms_keep t x2 (bytes_in_front x2 y2 b2) t_is;
        grants = grants_keep g x3 (bytes_in_front x3 y3 b3) g_is;
      },
      of_head.1,
    )

-- So does what is read.
pub read_body_keeps : (bytes : List ℕ) (b : Body) (rest : List ℕ) → IsBytes bytes → body.read bytes ≡ Ok (b, rest)
    → IsBody b × FitsSubject b.head
read_body_keeps bytes b rest each read =
    let fits = body.sound bytes b rest read in
    body_keeps b fits.0 (bytes_in_front fits.0 rest (subst IsBytes fits.2 each)) fits.1

pub ruleset keeping_laws = (body_keeps, read_body_keeps)
