-- The one spelling that is written is a piece of the layout.
use Rattle.std.specs.{Prelude.{◌≡◌, List, [], ℕ, ◌++◌, ◌<◌, ◌^◌, length, Ok}, Int.{w64, to_be_bytes}}
use Rattle.std.proofs.{Common.{refl, sym, subst, arith}, lemmas.List.{append-nil}}
use Rattle.picky_wire_base.proofs.{Named.{named_spells}, Numbers.{uint64_spells}, Row.{row_spells}}
use Rattle.picky_wire_base.proofs.Strings.{string_spells, text_spells}
use Rattle.picky_wire_base.specs.Wire.{string_of}
use Rattle.picky_wire.specs.{declared.timestamp.Timestamp.{Timestamp}, Principals.{IsPrincipal}}
use Rattle.picky_keys.specs.{declared.key.SshBasePublicKey.{SshBasePublicKey}, Key.{IsKey, kind_of}}
use Rattle.picky_keys.specs.{Blob.{blob_of, fields_spelled}, carried.Blob.{blob_spells, fields_spell}}
use Rattle.picky_cert_parts.specs.declared.cert_key_type.SshCertKeyType.{SshCertKeyType}
use Rattle.picky_cert_parts.specs.{CertNames.{cert_key_type_name}, CertNameTables.{cert_key_types}}
use Rattle.picky_cert_parts.specs.declared.cert_type.SshCertType.{SshCertType}
use Rattle.picky_cert_parts.specs.declared.critical_option.SshCriticalOption.{SshCriticalOption}
use Rattle.picky_cert_parts.specs.{declared.extension.SshExtension.{SshExtension}, CertType.{cert_type, cert_type_of}}
use Rattle.picky_cert_parts.specs.{carried.CertType.{cert_type_spells}, CriticalOption.{option_of, IsCriticalOption}}
use Rattle.picky_cert_parts.specs.{carried.CriticalOption.{option_spells}, Extension.{extension_of, IsExtension}}
use Rattle.picky_cert_parts.specs.carried.Extension.{extension_spells}
use Rattle.picky_cert_parts.proofs.TypeNameLaws.{cert_key_type_name_good}
use Rattle.picky_cert_blob.specs.Items.{principal_item, option_item, extension_item}
use Rattle.picky_cert_blob.specs.Layout.{Body, Grants, Head, Terms, body, grants, head, head_for, head_of, terms, cert_name}
use Rattle.picky_cert_blob.specs.Layout.{type_number, principals, valid_after, valid_before, critical_options, extensions}
use Rattle.picky_cert_blob.specs.Layout.{issuer}
use Rattle.picky_cert_blob.specs.Spelled.{head_spelled, terms_spelled, grants_spelled, body_spelled, principals_block}
use Rattle.picky_cert_blob.specs.Spelled.{options_block, extensions_block}
use Rattle.picky_cert_blob.specs.Keeps.{IsHead, IsTerms, IsGrants, IsBody, FitsSubject, IsWellFormedBody}

-- ---- who is certified

cert_name_spells : (t : SshCertKeyType) → cert_name.piece t (string_of (cert_key_type_name t))
unfolding cert_name cert_key_types
cert_name_spells t = named_spells 0 cert_key_types t (cert_key_type_name_good t)

head_for_spells : (h : Head) → IsHead h
    → (head_for h.cert_key_type (kind_of h.key)).piece h (string_of h.nonce ++ (fields_spelled h.key ++ []))
unfolding head_for
head_for_spells h is =
    (h.nonce, _, _, string_spells h.nonce is.nonce.short, (h.key, _, _, fields_spell h.key is.key, (refl, refl), refl), refl)

head_spells : (h : Head) → IsHead h → FitsSubject h → head.piece h (head_spelled h)
unfolding head head_spelled
head_spells h is fits = (
  h.cert_key_type,
  _,
  _,
  cert_name_spells h.cert_key_type,
  subst (λ kind. (head_of h.cert_key_type kind).piece h (string_of h.nonce ++ (fields_spelled h.key ++ []))) (sym fits) (head_for_spells h is),
  refl,
)

-- ---- for what and how long

type_number_spells : (t : SshCertType) → type_number.piece t (cert_type_of t)
unfolding type_number cert_type
type_number_spells t = cert_type_spells t

principal_spells : (v : List ℕ) → IsPrincipal v → principal_item.piece v (string_of v)
unfolding principal_item
principal_spells v is = text_spells v is.short is.utf8

principals_spell : (t : Terms) → IsTerms t → length (principals_block t) < 2 ^ 32
    → principals.piece t.principals (string_of (principals_block t))
unfolding principals
principals_spell t is short = (
  principals_block t,
  string_spells (principals_block t) short,
  row_spells principal_item.piece string_of IsPrincipal principal_spells t.principals is.principals,
)

after_spells : (t : Timestamp) → t.0 < 2 ^ 64 → valid_after.piece t (to_be_bytes w64 t.0)
unfolding valid_after
after_spells t small = (t.0, uint64_spells t.0 small, refl)

before_spells : (t : Timestamp) → t.0 < 2 ^ 64 → valid_before.piece t (to_be_bytes w64 t.0)
unfolding valid_before
before_spells t small = (t.0, uint64_spells t.0 small, refl)

terms_spell : (t : Terms) → IsTerms t → length (principals_block t) < 2 ^ 32 → terms.piece t (terms_spelled t)
unfolding terms terms_spelled
terms_spell t is short = (
  t.serial,
  _,
  _,
  uint64_spells t.serial is.serial,
  (
    t.cert_type,
    _,
    _,
    type_number_spells t.cert_type,
    (
      t.key_id,
      _,
      _,
      text_spells t.key_id is.key_id.string.short is.key_id.utf8,
      (
        t.principals,
        _,
        _,
        principals_spell t is short,
        (t.after, _, _, after_spells t.after is.after, (t.before, _, _, before_spells t.before is.before, (refl, refl), refl), refl),
        refl,
      ),
      refl,
    ),
    refl,
  ),
  refl,
)

-- ---- what is granted, and by whom

option_item_spells : (o : SshCriticalOption) → IsCriticalOption o → option_item.piece o (option_of o)
unfolding option_item
option_item_spells o is = option_spells o is

options_spell : (g : Grants) → IsGrants g → length (options_block g) < 2 ^ 32
    → critical_options.piece g.options (string_of (options_block g))
unfolding critical_options
options_spell g is short = (
  options_block g,
  string_spells (options_block g) short,
  row_spells option_item.piece option_of IsCriticalOption option_item_spells g.options is.options,
)

extension_item_spells : (x : SshExtension) → IsExtension x → extension_item.piece x (extension_of x)
unfolding extension_item
extension_item_spells x is = extension_spells x is

extensions_spell : (g : Grants) → IsGrants g → length (extensions_block g) < 2 ^ 32
    → extensions.piece g.extensions (string_of (extensions_block g))
unfolding extensions
extensions_spell g is short = (
  extensions_block g,
  string_spells (extensions_block g) short,
  row_spells extension_item.piece extension_of IsExtension extension_item_spells g.extensions is.extensions,
)

issuer_spells : (key : SshBasePublicKey) → IsKey key → length (blob_of key) < 2 ^ 32 → issuer.piece key (string_of (blob_of key))
unfolding issuer
issuer_spells key is short =
    (blob_of key, string_spells (blob_of key) short, ([], (blob_of key, blob_spells key is, sym (append-nil (blob_of key)))))

grants_spell : (g : Grants) → IsGrants g → length (options_block g) < 2 ^ 32 → length (extensions_block g) < 2 ^ 32
    → length (blob_of g.issuer) < 2 ^ 32 → grants.piece g (grants_spelled g)
unfolding grants grants_spelled
grants_spell g is options_short extensions_short issuer_short = (
  g.options,
  _,
  _,
  options_spell g is options_short,
  (
    g.extensions,
    _,
    _,
    extensions_spell g is extensions_short,
    (
      [],
      _,
      _,
      string_spells [] (omega arith),
      (g.issuer, _, _, issuer_spells g.issuer is.issuer issuer_short, (refl, refl), refl),
      refl,
    ),
    refl,
  ),
  refl,
)

-- ---- all before the signature

-- The canonical spelling is a piece.
pub body_spells : (b : Body) → IsBody b → IsWellFormedBody b → body.piece b (body_spelled b)
unfolding body body_spelled
body_spells b is formed = (
  b.head,
  _,
  _,
  head_spells b.head is.head formed.fits,
  (
    b.terms,
    _,
    _,
    terms_spell b.terms is.terms formed.principals,
    (
      b.grants,
      _,
      _,
      grants_spell b.grants is.grants formed.options formed.extensions formed.issuer,
      (refl, refl),
      refl,
    ),
    refl,
  ),
  refl,
)

-- It is read back whatever follows.
pub body_reads_back : (b : Body) (rest : List ℕ) → IsBody b → IsWellFormedBody b → body.read (body_spelled b ++ rest) ≡ Ok (b, rest)
body_reads_back b rest is formed = body.complete b (body_spelled b) rest (body_spells b is formed)

pub ruleset spelling_laws = (body_spells, body_reads_back)
