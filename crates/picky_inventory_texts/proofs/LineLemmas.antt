-- A line is a listed key's exactly where the test says so.
use Rattle.std.proofs.Common.{◌≡◌, ◌≢◌, ◌↔◌, ◌==◌, ◌&&◌, ◌||◌, ℕ, Bool, true, false, not, List, [], ◌∷◌, ◌++◌, length, refl, sym}
use Rattle.std.proofs.Common.{◌∙◌, ap, subst, inl, inr, Option, Some, None, IsUtf8, arith, get_or, nat_lt}
use Rattle.std.proofs.lemmas.Bool.{and_from, and_parts, cases_Bool, eqb-false, ltb-true, not-true}
use Rattle.std.proofs.lemmas.List.{append_assoc}
use Rattle.std.proofs.lemmas.List.Sums.{AllPass-from_list_all}
use Rattle.std.proofs.lemmas.Slice.Eq.{bytes_eq-Decides}
use Rattle.std.proofs.lemmas.Str.{IsUtf8-append, IsUtf8-from_ascii, IsUtf8-from_is_utf8, is_utf8-from_IsUtf8}
use Rattle.std.proofs.lemmas.Str.Ascii.{IsAscii-from_all}
use Rattle.std.specs.List.{list_all}
use Rattle.std.specs.Str.{bytes_eq, is_utf8}
use Rattle.picky_text.specs.Base64.{base64_of}
use Rattle.picky_text.specs.Lines.{HasNo}
use Rattle.picky_text.proofs.Base64Laws.{base64_has_no, base64_is_ascii}
use Rattle.picky_text.proofs.ListLaws.{all_append}
use Rattle.picky_keys.specs.Blob.{blob_of}
use Rattle.picky_keys.specs.declared.key.SshPublicKey.{SshPublicKey}
use Rattle.picky_keys.proofs.LineLaws.{blob_is_bytes}
use Rattle.picky_key_text.proofs.Utf8Laws.{cut_at_ascii}
use Rattle.picky_inventory.specs.ItemLine.{cut_at, is_item_line, is_key_end, is_kind, passes}
use Rattle.picky_inventory.specs.Items.{Item, IsItem, IsPrivate, IsPublic, item_line, kind_word, public_word}
use Rattle.picky_inventory.specs.OrderedText.{IsWholeLine}
use Rattle.picky_inventory.proofs.ItemLaws.{one_item, same_cut, word_has_no_space}
use Rattle.picky_inventory.proofs.ItemLineLaws.{cut_first, cut_whole, line_passes, of_text, passed_is_item}
use Rattle.picky_inventory_texts.specs.Listed.{IsListed, IsListedLine, IsRead, IsSealed, Listed, ListedKind, is_listed_line}
use Rattle.picky_inventory_texts.specs.Listed.{is_listed_word, listed_line, listed_word, read_item, sealed_item, sealed_word}

-- ---- how the test goes

-- of a text it is enough to look at its words
of_words : (line : List ℕ) → IsUtf8 line → is_listed_line line ≡ passes is_listed_word is_key_end (cut_at 32 line)
unfolding is_listed_line
of_words line utf8 = rw (is_utf8-from_IsUtf8 line utf8) refl

or_false : (a b : Bool) → b ≡ false → (a || b) ≡ a
or_false true b none = refl
or_false false b none = none

-- behind the word of an encrypted key
pub sealed_ends : (line word rest : List ℕ) → IsUtf8 line → cut_at 32 line ≡ Some (word, rest) → word ≡ sealed_word
    → is_listed_line line ≡ is_key_end rest
sealed_ends line word rest utf8 cut same =
    of_words line utf8 ∙ ap (passes is_listed_word is_key_end) cut
    ∙ ap (λ w. is_listed_word w && is_key_end rest) same

-- behind another word
pub item_ends : (line word rest : List ℕ) → IsUtf8 line → cut_at 32 line ≡ Some (word, rest) → bytes_eq word sealed_word ≡ false
    → is_listed_line line ≡ is_item_line line
item_ends line word rest utf8 cut other =
    of_words line utf8 ∙ ap (passes is_listed_word is_key_end) cut
    ∙ ap (λ b. b && is_key_end rest) (or_false (is_kind word) (bytes_eq word sealed_word) other)
    ∙ sym (of_text line utf8 ∙ ap (passes is_kind is_key_end) cut)

-- and without a space
pub uncut_line : (line : List ℕ) → IsUtf8 line → cut_at 32 line ≡ None → is_listed_line line ≡ is_item_line line
uncut_line line utf8 none =
    of_words line utf8 ∙ ap (passes is_listed_word is_key_end) none
    ∙ sym (of_text line utf8 ∙ ap (passes is_kind is_key_end) none)

-- what follows the word of a public key
pub public_ends : (line rest : List ℕ) → IsUtf8 line → line ≡ public_word ++ 32 ∷ rest → is_item_line line ≡ is_key_end rest
public_ends line rest utf8 is =
    of_text line utf8
    ∙ ap (passes is_kind is_key_end) (ap (cut_at 32) is ∙ cut_first 32 public_word rest (word_has_no_space IsPublic))

-- ---- texts

ascii_is_text : (bytes : List ℕ) → list_all (λ b. nat_lt b 128) bytes ≡ true → IsUtf8 bytes
ascii_is_text bytes test =
    IsUtf8-from_ascii bytes (IsAscii-from_all bytes
    (λ i d below. ltb-true (get_or bytes i d) 128 (AllPass-from_list_all (λ b. nat_lt b 128) bytes test i d below)))

with_word : (word rest : List ℕ) → IsUtf8 word → IsUtf8 rest → IsUtf8 (word ++ 32 ∷ rest)
with_word word rest first more =
    IsUtf8-append word (32 ∷ rest) first (IsUtf8-append (32 ∷ []) rest (ascii_is_text (32 ∷ []) refl) more)

words_are_text : (blob comment : List ℕ) → IsUtf8 (base64_of blob ++ 32 ∷ (base64_of comment ++ 10 ∷ []))
words_are_text blob comment =
    with_word (base64_of blob) (base64_of comment ++ 10 ∷ []) (IsUtf8-from_ascii _ (base64_is_ascii blob))
    (IsUtf8-append (base64_of comment) (10 ∷ []) (IsUtf8-from_ascii _ (base64_is_ascii comment)) (ascii_is_text (10 ∷ []) refl))

-- ---- the word of an encrypted key, and that of a public one

stands_nowhere : ℕ → List ℕ → Bool
stands_nowhere b [] = true
stands_nowhere b (c ∷ cs) = not (c == b) && stands_nowhere b cs

none_from_test : (b : ℕ) (bytes : List ℕ) → stands_nowhere b bytes ≡ true → HasNo b bytes
unfolding stands_nowhere
none_from_test b [] test = tt
none_from_test b (c ∷ cs) test =
    let both = and_parts (not (c == b)) (stands_nowhere b cs) test in
    (eqb-false c b (not-true (c == b) both.0), none_from_test b cs both.1)

sealed_has_no_space : HasNo 32 sealed_word
unfolding stands_nowhere
sealed_has_no_space = none_from_test 32 sealed_word refl

sealed_has_no_lf : HasNo 10 sealed_word
unfolding stands_nowhere
sealed_has_no_lf = none_from_test 10 sealed_word refl

-- what passes behind the one passes behind the other
public_passes : (rest : List ℕ) → IsUtf8 rest → is_key_end rest ≡ true → is_item_line (public_word ++ 32 ∷ rest) ≡ true
public_passes rest utf8 ends =
    public_ends (public_word ++ 32 ∷ rest) rest (with_word public_word rest (ascii_is_text public_word refl) utf8) refl ∙ ends

passed_behind : (rest : List ℕ) → IsUtf8 rest → is_item_line (public_word ++ 32 ∷ rest) ≡ true → is_key_end rest ≡ true
passed_behind rest utf8 passes =
    sym (public_ends (public_word ++ 32 ∷ rest) rest (with_word public_word rest (ascii_is_text public_word refl) utf8) refl)
    ∙ passes

-- ---- a listed key's line passes

abbrev pub as_public : Listed → Item
as_public listed = record { kind = IsPublic; key = listed.key; comment = listed.comment }

abbrev words_of : Listed → List ℕ
words_of listed = base64_of (blob_of listed.key) ++ 32 ∷ (base64_of listed.comment ++ 10 ∷ [])

words_pass : (listed : Listed) → IsListed listed → is_key_end (words_of listed) ≡ true
words_pass listed is =
    passed_behind (words_of listed) (words_are_text (blob_of listed.key) listed.comment)
    (line_passes (as_public listed) (record { key = is.key; comment = is.comment }))

kind_is_text : (kind : ListedKind) → IsUtf8 (listed_word kind)
kind_is_text (IsRead IsPrivate) = ascii_is_text (kind_word IsPrivate) refl
kind_is_text (IsRead IsPublic) = ascii_is_text (kind_word IsPublic) refl
kind_is_text IsSealed = ascii_is_text sealed_word refl

pub kind_has_no_space : (kind : ListedKind) → HasNo 32 (listed_word kind)
kind_has_no_space (IsRead kind) = word_has_no_space kind
kind_has_no_space IsSealed = sealed_has_no_space

kind_passes : (kind : ListedKind) → is_listed_word (listed_word kind) ≡ true
kind_passes (IsRead IsPrivate) = refl
kind_passes (IsRead IsPublic) = refl
kind_passes IsSealed = refl

pub listed_passes : (listed : Listed) → IsListed listed → is_listed_line (listed_line listed) ≡ true
listed_passes listed is =
    let word : List ℕ = listed_word listed.kind in
    let words : List ℕ = words_of listed in
    of_words (word ++ 32 ∷ words)
    (with_word word words (kind_is_text listed.kind) (words_are_text (blob_of listed.key) listed.comment))
    ∙ ap (passes is_listed_word is_key_end) (cut_first 32 word words (kind_has_no_space listed.kind))
    ∙ and_from (is_listed_word word) (is_key_end words) (kind_passes listed.kind) (words_pass listed is)

-- ---- and what passes is one

passes_cut : (front rest : List ℕ → Bool) (found : Option (List ℕ × List ℕ)) → passes front rest found ≡ true
    → (cut : List ℕ × List ℕ) × (found ≡ Some cut) × (front cut.0 ≡ true) × (rest cut.1 ≡ true)
passes_cut front rest None is = cc is
passes_cut front rest (Some cut) is =
    let both = and_parts (front cut.0) (rest cut.1) is in (cut, refl, both.0, both.1)

item_is_listed : (line : List ℕ) (item : Item) → IsItem item → line ≡ item_line item → IsListedLine line
item_is_listed line item is same = (read_item item, record { key = is.key; comment = is.comment }, same)

public_is_sealed : (item : Item) (rest : List ℕ) → IsItem item → public_word ++ 32 ∷ rest ≡ item_line item
    → IsListedLine (sealed_word ++ 32 ∷ rest)
public_is_sealed item rest is same =
    let words : List ℕ = base64_of (blob_of item.key) ++ 32 ∷ (base64_of item.comment ++ 10 ∷ []) in
    let behind = same_cut 32 public_word rest (kind_word item.kind) words (word_has_no_space IsPublic)
    (word_has_no_space item.kind) same in (
      record { kind = IsSealed; key = item.key; comment = item.comment },
      record { key = is.key; comment = is.comment },
      ap (λ l. sealed_word ++ 32 ∷ l) behind.1,
    )

sealed_from : (line word rest : List ℕ) → IsUtf8 line → line ≡ word ++ 32 ∷ rest → word ≡ sealed_word → is_key_end rest ≡ true
    → IsListedLine line
sealed_from line word rest utf8 whole same ends =
    let parts = cut_at_ascii word 32 rest (omega arith) (subst IsUtf8 whole utf8) in
    let passed = passed_is_item (public_word ++ 32 ∷ rest) (public_passes rest parts.1 ends) in
    subst IsListedLine (ap (λ w. w ++ 32 ∷ rest) (sym same) ∙ sym whole) (public_is_sealed passed.0 rest passed.1 passed.2)

passed_is_listed : (line : List ℕ) → is_listed_line line ≡ true → IsListedLine line
unfolding is_listed_line
passed_is_listed line is =
    let both = and_parts (is_utf8 line) (passes is_listed_word is_key_end (cut_at 32 line)) is in
    let utf8 : IsUtf8 line = IsUtf8-from_is_utf8 line both.0 in
    let found = passes_cut is_listed_word is_key_end (cut_at 32 line) both.1 in
    let word : List ℕ = found.0.0 in
    let rest : List ℕ = found.0.1 in
    let whole : line ≡ word ++ 32 ∷ rest = cut_whole 32 line found.0 found.1 in
    elim (cases_Bool (bytes_eq word sealed_word)) [
      | inl same ↦ sealed_from line word rest utf8 whole ((bytes_eq-Decides word sealed_word).0 same) found.3
      | inr other ↦
          let kind : is_kind word ≡ true = sym (or_false (is_kind word) (bytes_eq word sealed_word) other) ∙ found.2 in
          let item : is_item_line line ≡ true =
          of_text line utf8 ∙ ap (passes is_kind is_key_end) found.1 ∙ and_from (is_kind word) (is_key_end rest) kind found.3 in
          let passed = passed_is_item line item in
          item_is_listed line passed.0 passed.1 passed.2
    ]

pub listed_line_is : (line : List ℕ) → (is_listed_line line ≡ true) ↔ IsListedLine line
listed_line_is line = (passed_is_listed line, λ found. ap is_listed_line found.2 ∙ listed_passes found.0 found.1)

-- ---- one whole line, of one key

kind_has_no_lf : (kind : ListedKind) → HasNo 10 (listed_word kind)
unfolding stands_nowhere
kind_has_no_lf (IsRead IsPrivate) = none_from_test 10 (kind_word IsPrivate) refl
kind_has_no_lf (IsRead IsPublic) = none_from_test 10 (kind_word IsPublic) refl
kind_has_no_lf IsSealed = sealed_has_no_lf

pub listed_is_line : (listed : Listed) → IsListed listed → IsWholeLine (listed_line listed)
listed_is_line listed is =
    let word : List ℕ = listed_word listed.kind in
    let key : List ℕ = base64_of (blob_of listed.key) in
    let comment : List ℕ = base64_of listed.comment in
    let P : ℕ → Type 0 = λ b. b ≢ 10 in
    record {
      front = word ++ 32 ∷ (key ++ 32 ∷ comment);
      none =
          all_append P word (32 ∷ (key ++ 32 ∷ comment)) (kind_has_no_lf listed.kind) (
            λ same. cc same,
            all_append P key (32 ∷ comment) (base64_has_no 10 (blob_of listed.key) (blob_is_bytes listed.key is.key) refl)
                (λ same. cc same, base64_has_no 10 listed.comment is.comment.string.bytes refl),
          );
      is = simp append_assoc;
    }

-- the line of an encrypted key is none of picky_inventory
pub sealed_is_no_item : (key : SshPublicKey) → is_item_line (listed_line (sealed_item key)) ≡ false
sealed_is_no_item key =
    let blob : List ℕ = blob_of key.inner_key in
    let words : List ℕ = base64_of blob ++ 32 ∷ (base64_of key.comment ++ 10 ∷ []) in
    of_text (sealed_word ++ 32 ∷ words)
    (with_word sealed_word words (ascii_is_text sealed_word refl) (words_are_text blob key.comment))
    ∙ ap (passes is_kind is_key_end) (cut_first 32 sealed_word words sealed_has_no_space)

abbrev first_of : List ℕ → ℕ
first_of [] = 0
first_of (b ∷ bytes) = b

one_kind : (a b : ListedKind) → listed_word a ≡ listed_word b → a ≡ b
one_kind (IsRead IsPrivate) (IsRead IsPrivate) is = refl
one_kind (IsRead IsPrivate) (IsRead IsPublic) is = absurd (omega (arith, ap length is))
one_kind (IsRead IsPrivate) IsSealed is = absurd (omega (arith, ap length is))
one_kind (IsRead IsPublic) (IsRead IsPrivate) is = absurd (omega (arith, ap length is))
one_kind (IsRead IsPublic) (IsRead IsPublic) is = refl
one_kind (IsRead IsPublic) IsSealed is = absurd (omega (arith, ap first_of is))
one_kind IsSealed (IsRead IsPrivate) is = absurd (omega (arith, ap length is))
one_kind IsSealed (IsRead IsPublic) is = absurd (omega (arith, ap first_of is))
one_kind IsSealed IsSealed is = refl

-- a line is of one listed key
pub one_listed : (a b : Listed) → IsListed a → IsListed b → listed_line a ≡ listed_line b → a ≡ b
one_listed a b is_a is_b is =
    let behind = same_cut 32 (listed_word a.kind) (words_of a) (listed_word b.kind) (words_of b) (kind_has_no_space a.kind)
    (kind_has_no_space b.kind) is in
    let kind : a.kind ≡ b.kind = one_kind a.kind b.kind behind.0 in
    let rest : as_public a ≡ as_public b =
    one_item (as_public a) (as_public b) (record { key = is_a.key; comment = is_a.comment })
    (record { key = is_b.key; comment = is_b.comment }) (ap (λ l. public_word ++ 32 ∷ l) behind.1) in
    λ i. record { kind = kind i; key = (rest i).key; comment = (rest i).comment }
