-- A line is an item's exactly where the test says so.
use Rattle.std.proofs.Common.{◌≡◌, ◌≢◌, ◌↔◌, ◌==◌, ◌<◌, ℕ, Bool, true, List, [], ◌∷◌, ◌++◌, length, refl, sym, ◌∙◌, ap, ap₂}
use Rattle.std.proofs.Common.{inl, inr, subst, Option, Some, None, Result, Ok, Err, Bor, MatchOption, IsUtf8, get_or, nat_lt}
use Rattle.std.proofs.lemmas.Bool.{and_parts, and_from, cases_Bool, eqb-false, eqb-true, lt-ltb, ltb-true}
use Rattle.std.proofs.lemmas.List.Sums.{AllPass-from_list_all}
use Rattle.std.specs.List.{list_all}
use Rattle.std.proofs.lemmas.Str.Ascii.{IsAscii-from_all}
use Rattle.std.proofs.lemmas.List.{append-nil, nil_from_length}
use Rattle.std.proofs.lemmas.Slice.Eq.{bytes_eq-Decides}
use Rattle.std.proofs.lemmas.Str.{IsUtf8-append, IsUtf8-from_ascii, IsUtf8-from_is_utf8, is_utf8-from_IsUtf8}
use Rattle.std.specs.Str.{is_utf8, bytes_eq}
use Rattle.picky_wire_base.specs.Numbers.{IsBytes}
use Rattle.picky_wire_base.proofs.Numbers.{bytes_in_front, bytes_behind}
use Rattle.picky_text.specs.Base64.{base64_of, decoded}
use Rattle.picky_text.specs.Lines.{HasNo}
use Rattle.picky_text.proofs.Base64Laws.{base64_has_no, base64_is_ascii, base64_is_of_what_it_gives, base64_is_read_back, decoded_is_bytes}
use Rattle.picky_text.proofs.UnquoteLemmas.{none_from_places}
use Rattle.picky_keys.specs.Blob.{blob_of}
use Rattle.picky_keys.specs.Key.{IsKey, IsText}
use Rattle.picky_keys.specs.LineRefusal.{blob_key}
use Rattle.picky_keys.specs.carried.Blob.{blob_spells}
use Rattle.picky_keys.specs.declared.error.SshPublicKeyError.{SshPublicKeyError}
use Rattle.picky_keys.specs.declared.key.SshBasePublicKey.{SshBasePublicKey}
use Rattle.picky_keys.proofs.KeyLaws.{spelled_is_key}
use Rattle.picky_keys.proofs.LineLaws.{blob_is_bytes, blob_key_fits, blob_key_of}
use Rattle.picky_keys.proofs.ByteLaws.{utf8_is_bytes}
use Rattle.picky_inventory.specs.ItemLine.{onto_cut, cut_at, passes, is_kind, is_spelled, is_canonical, is_text, some_passes, is_blob_word}
use Rattle.picky_inventory.specs.ItemLine.{is_comment_word, is_nothing, is_comment_end, is_key_end, is_item_line}
use Rattle.picky_inventory.specs.Items.{Kind, IsPrivate, IsPublic, kind_word, private_word, public_word, Item, IsItem, item_line}
use Rattle.picky_inventory.proofs.ItemLaws.{word_has_no_space}

-- ---- a cut

pub cut_first : (b : ℕ) (front rest : List ℕ) → HasNo b front → cut_at b (front ++ b ∷ rest) ≡ Some (front, rest)
cut_first b [] rest none = elim (cases_Bool (b == b)) [
  | inl same ↦ rw same refl
  | inr other ↦ absurd (eqb-false b b other refl)
]
cut_first b (c ∷ front) rest none = elim (cases_Bool (c == b)) [
  | inl same ↦ absurd (none.0 (eqb-true c b same))
  | inr other ↦ rw (other, cut_first b front rest none.1) refl
]

pub uncut : (b : ℕ) (bytes : List ℕ) → HasNo b bytes → cut_at b bytes ≡ None
uncut b [] none = refl
uncut b (c ∷ bytes) none = elim (cases_Bool (c == b)) [
  | inl same ↦ absurd (none.0 (eqb-true c b same))
  | inr other ↦ rw (other, uncut b bytes none.1) refl
]

onto_whole : (b c : ℕ) (bytes : List ℕ) (found : Option (List ℕ × List ℕ)) (cut : List ℕ × List ℕ)
    → ((before : List ℕ × List ℕ) → found ≡ Some before → bytes ≡ before.0 ++ b ∷ before.1)
    → onto_cut c found ≡ Some cut → c ∷ bytes ≡ cut.0 ++ b ∷ cut.1
onto_whole b c bytes None cut each is = cc is
onto_whole b c bytes (Some before) cut each is =
    let same : (c ∷ before.0, before.1) ≡ cut = cc is in
    subst (λ (k : List ℕ × List ℕ). c ∷ bytes ≡ k.0 ++ b ∷ k.1) same (ap (λ l. c ∷ l) (each before refl))

-- the parts of a cut and the byte between them are the whole
pub cut_whole : (b : ℕ) (bytes : List ℕ) (cut : List ℕ × List ℕ) → cut_at b bytes ≡ Some cut
    → bytes ≡ cut.0 ++ b ∷ cut.1
cut_whole b [] cut is = cc is
cut_whole b (c ∷ bytes) cut is = elim (cases_Bool (c == b)) [
  | inl same ↦
      let found : ([], bytes) ≡ cut = cc (rw same at is) in
      subst (λ (k : List ℕ × List ℕ). c ∷ bytes ≡ k.0 ++ b ∷ k.1) found (ap (λ k. k ∷ bytes) (eqb-true c b same))
  | inr other ↦
      onto_whole b c bytes (cut_at b bytes) cut (λ before at. cut_whole b bytes before at) (rw other at is)
]

-- how `split_once` cuts
pub cut_by_split : (b : ℕ) (text : List ℕ) (found : Option (Bor (List ℕ) × Bor (List ℕ)))
    → MatchOption found ((i : ℕ) → i < length text → get_or text i 0 ≢ b)
    (λ x. (text ≡ x.0.now ++ (b ∷ x.1.now)) × ((i : ℕ) → i < length x.0.now → get_or x.0.now i 0 ≢ b))
    → MatchOption found (cut_at b text ≡ None) (λ cut. cut_at b text ≡ Some (cut.0.now, cut.1.now))
cut_by_split b text None none = uncut b text (none_from_places b text none)
cut_by_split b text (Some x) is =
    ap (cut_at b) is.0 ∙ cut_first b x.0.now x.1.now (none_from_places b x.0.now is.1)

-- ---- what passes

passes_cut : (front rest : List ℕ → Bool) (found : Option (List ℕ × List ℕ)) → passes front rest found ≡ true
    → (cut : List ℕ × List ℕ) × (found ≡ Some cut) × (front cut.0 ≡ true) × (rest cut.1 ≡ true)
passes_cut front rest None is = cc is
passes_cut front rest (Some cut) is =
    let both = and_parts (front cut.0) (rest cut.1) is in (cut, refl, both.0, both.1)

cut_passes : (b : ℕ) (front rest : List ℕ → Bool) (xs ys : List ℕ) → HasNo b xs → front xs ≡ true → rest ys ≡ true
    → passes front rest (cut_at b (xs ++ b ∷ ys)) ≡ true
cut_passes b front rest xs ys none left right =
    ap (passes front rest) (cut_first b xs ys none) ∙ and_from (front xs) (rest ys) left right

some_passed : (test : List ℕ → Bool) (found : Option (List ℕ)) → some_passes test found ≡ true
    → (bytes : List ℕ) × (found ≡ Some bytes) × (test bytes ≡ true)
some_passed test None is = cc is
some_passed test (Some bytes) is = (bytes, refl, is)

-- ---- the words

kind_passes : (kind : Kind) → is_kind (kind_word kind) ≡ true
kind_passes IsPrivate = refl
kind_passes IsPublic = refl

kind_of_word : (word : List ℕ) → is_kind word ≡ true → (kind : Kind) × (word ≡ kind_word kind)
kind_of_word word is = elim (cases_Bool (bytes_eq word private_word)) [
  | inl same ↦ (IsPrivate, (bytes_eq-Decides word private_word).0 same)
  | inr other ↦ (IsPublic, (bytes_eq-Decides word public_word).0 (rw other at is))
]

canonical_passes : (key : SshBasePublicKey) → IsKey key → is_canonical (blob_of key) ≡ true
canonical_passes key is =
    ap (is_spelled (blob_of key))
    (blob_key_of (blob_of key) [] key (blob_of key, blob_spells key is, sym (append-nil (blob_of key))))
    ∙ (bytes_eq-Decides (blob_of key) (blob_of key)).1 refl

spelled_key : (blob : List ℕ) (says : Result SshBasePublicKey SshPublicKeyError) → is_spelled blob says ≡ true
    → (key : SshBasePublicKey) × (says ≡ Ok key) × (blob_of key ≡ blob)
spelled_key blob (Ok key) is = (key, refl, (bytes_eq-Decides (blob_of key) blob).0 is)
spelled_key blob (Err e) is = cc is

canonical_key : (blob : List ℕ) → IsBytes blob → is_canonical blob ≡ true
    → (key : SshBasePublicKey) × IsKey key × (blob ≡ blob_of key)
canonical_key blob each is =
    let found = spelled_key blob (blob_key blob) is in
    let fits = blob_key_fits blob found.0 found.1 in
    let front = bytes_in_front fits.1.0 fits.0 (subst IsBytes fits.1.2 each) in
    (found.0, spelled_is_key found.0 fits.1.0 front fits.1.1, sym found.2)

text_passes : (bytes : List ℕ) → IsText bytes → is_text bytes ≡ true
text_passes bytes is =
    and_from _ (is_utf8 bytes) (lt-ltb (length bytes) _ is.string.short) (is_utf8-from_IsUtf8 bytes is.utf8)

text_from : (bytes : List ℕ) → IsBytes bytes → is_text bytes ≡ true → IsText bytes
text_from bytes each is =
    let both = and_parts _ (is_utf8 bytes) is in
    record {
      string = record { bytes = each; short = ltb-true (length bytes) _ both.0 };
      utf8 = IsUtf8-from_is_utf8 bytes both.1;
    }

-- ---- the line

ascii_is_text : (bytes : List ℕ) → list_all (λ b. nat_lt b 128) bytes ≡ true → IsUtf8 bytes
ascii_is_text bytes test =
    IsUtf8-from_ascii bytes (IsAscii-from_all bytes
    (λ i d below. ltb-true (get_or bytes i d) 128 (AllPass-from_list_all (λ b. nat_lt b 128) bytes test i d below)))

kind_is_text : (kind : Kind) → IsUtf8 (kind_word kind)
kind_is_text IsPrivate = ascii_is_text private_word refl
kind_is_text IsPublic = ascii_is_text public_word refl

-- of a text it is enough to look at its words
pub of_text : (line : List ℕ) → IsUtf8 line → is_item_line line ≡ passes is_kind is_key_end (cut_at 32 line)
unfolding is_item_line
of_text line utf8 = rw (is_utf8-from_IsUtf8 line utf8) refl

comment_end_passes : (comment : List ℕ) → IsText comment → is_comment_end (base64_of comment ++ 10 ∷ []) ≡ true
unfolding is_comment_end
comment_end_passes comment is =
    cut_passes 10 is_comment_word is_nothing (base64_of comment) [] (base64_has_no 10 comment is.string.bytes refl)
    (ap (some_passes is_text) (base64_is_read_back comment is.string.bytes) ∙ text_passes comment is) refl

key_end_passes : (key : SshBasePublicKey) (rest : List ℕ) → IsKey key → is_comment_end rest ≡ true
    → is_key_end (base64_of (blob_of key) ++ 32 ∷ rest) ≡ true
unfolding is_key_end
key_end_passes key rest is more =
    let each : IsBytes (blob_of key) = blob_is_bytes key is in
    cut_passes 32 is_blob_word is_comment_end (base64_of (blob_of key)) rest (base64_has_no 32 (blob_of key) each refl)
    (ap (some_passes is_canonical) (base64_is_read_back (blob_of key) each) ∙ canonical_passes key is) more

base64_is_text : (bytes more : List ℕ) → IsUtf8 more → IsUtf8 (base64_of bytes ++ more)
base64_is_text bytes more = IsUtf8-append (base64_of bytes) more (IsUtf8-from_ascii _ (base64_is_ascii bytes))

space_is_text : (more : List ℕ) → IsUtf8 more → IsUtf8 (32 ∷ more)
space_is_text more = IsUtf8-append (32 ∷ []) more (ascii_is_text (32 ∷ []) refl)

line_is_text : (item : Item) → IsUtf8 (item_line item)
line_is_text item =
    IsUtf8-append (kind_word item.kind) _ (kind_is_text item.kind) (space_is_text _
    (base64_is_text (blob_of item.key) _ (space_is_text _
    (base64_is_text item.comment (10 ∷ []) (ascii_is_text (10 ∷ []) refl)))))

-- an item's line passes
pub line_passes : (item : Item) → IsItem item → is_item_line (item_line item) ≡ true
line_passes item is =
    let comment : List ℕ = base64_of item.comment ++ 10 ∷ [] in
    of_text (item_line item) (line_is_text item)
    ∙ cut_passes 32 is_kind is_key_end (kind_word item.kind) (base64_of (blob_of item.key) ++ 32 ∷ comment)
    (word_has_no_space item.kind) (kind_passes item.kind)
    (key_end_passes item.key comment is.key (comment_end_passes item.comment is.comment))

behind : (b : ℕ) (front rest : List ℕ) → IsBytes (front ++ b ∷ rest) → IsBytes rest
behind b front rest each = bytes_behind (b ∷ []) rest (bytes_behind front (b ∷ rest) each)

-- what passes as the end of a line is a text's
comment_from : (bytes : List ℕ) → IsBytes bytes → is_comment_end bytes ≡ true
    → (comment : List ℕ) × IsText comment × (bytes ≡ base64_of comment ++ 10 ∷ [])
unfolding is_comment_end
comment_from bytes each is =
    let found = passes_cut is_comment_word is_nothing (cut_at 10 bytes) is in
    let word : List ℕ = found.0.0 in
    let rest : List ℕ = found.0.1 in
    let whole : bytes ≡ word ++ 10 ∷ rest = cut_whole 10 bytes found.0 found.1 in
    let small : IsBytes word = bytes_in_front word (10 ∷ rest) (subst IsBytes whole each) in
    let said = some_passed is_text (decoded word) found.2 in
    let none : rest ≡ [] = nil_from_length rest (eqb-true (length rest) 0 found.3) in
    let spelled : word ≡ base64_of said.0 = base64_is_of_what_it_gives word said.0 small said.1 in (
      said.0,
      text_from said.0 (decoded_is_bytes word said.0 small said.1) said.2,
      whole ∙ ap₂ (λ a b. a ++ 10 ∷ b) spelled none,
    )

-- and what passes as what follows the kind, a key's and a text's
key_from : (bytes : List ℕ) → IsBytes bytes → is_key_end bytes ≡ true
    → (key : SshBasePublicKey) × IsKey key × (comment : List ℕ) × IsText comment
    × (bytes ≡ base64_of (blob_of key) ++ 32 ∷ (base64_of comment ++ 10 ∷ []))
unfolding is_key_end
key_from bytes each is =
    let found = passes_cut is_blob_word is_comment_end (cut_at 32 bytes) is in
    let word : List ℕ = found.0.0 in
    let rest : List ℕ = found.0.1 in
    let whole : bytes ≡ word ++ 32 ∷ rest = cut_whole 32 bytes found.0 found.1 in
    let all : IsBytes (word ++ 32 ∷ rest) = subst IsBytes whole each in
    let small : IsBytes word = bytes_in_front word (32 ∷ rest) all in
    let said = some_passed is_canonical (decoded word) found.2 in
    let key = canonical_key said.0 (decoded_is_bytes word said.0 small said.1) said.2 in
    let spelled : word ≡ base64_of (blob_of key.0) =
    base64_is_of_what_it_gives word said.0 small said.1 ∙ ap base64_of key.2 in
    let comment = comment_from rest (behind 32 word rest all) found.3 in
    (key.0, key.1, comment.0, comment.1, whole ∙ ap₂ (λ a b. a ++ 32 ∷ b) spelled comment.2)

-- so what passes is an item's line
pub passed_is_item : (line : List ℕ) → is_item_line line ≡ true → (item : Item) × IsItem item × (line ≡ item_line item)
unfolding is_item_line
passed_is_item line is =
    let both = and_parts (is_utf8 line) (passes is_kind is_key_end (cut_at 32 line)) is in
    let each : IsBytes line = utf8_is_bytes line (IsUtf8-from_is_utf8 line both.0) in
    let found = passes_cut is_kind is_key_end (cut_at 32 line) both.1 in
    let word : List ℕ = found.0.0 in
    let rest : List ℕ = found.0.1 in
    let whole : line ≡ word ++ 32 ∷ rest = cut_whole 32 line found.0 found.1 in
    let kind = kind_of_word word found.2 in
    let key = key_from rest (behind 32 word rest (subst IsBytes whole each)) found.3 in
    let item : Item = record { kind = kind.0; key = key.0; comment = key.2 } in (
      item,
      record { key = key.1; comment = key.3 },
      whole ∙ ap₂ (λ a b. a ++ 32 ∷ b) kind.1 key.4,
    )

pub item_line_is : (line : List ℕ)
    → (is_item_line line ≡ true) ↔ ((item : Item) × IsItem item × (line ≡ item_line item))
item_line_is line = (
  passed_is_item line,
  λ found. ap is_item_line found.2 ∙ line_passes found.0 found.1,
)
