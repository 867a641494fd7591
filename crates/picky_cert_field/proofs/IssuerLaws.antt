-- A public key line without a comment is read as its key.
use Rattle.std.specs.Prelude.{◌≡◌, ◌++◌, ◌∷◌, ◌<◌, ◌^◌, ◌==◌, false, List, [], ℕ, length, slice_index, Some, Ok}
use Rattle.std.specs.List.{AllByRecursion, position_or_len}
use Rattle.std.specs.Str.{trim_end}
use Rattle.std.proofs.Common.{◌∙◌, ap, subst, sym, refl, arith, inl, inr}
use Rattle.std.proofs.lemmas.Bool.{cases_Bool, lt-ltb}
use Rattle.std.proofs.lemmas.List.{append-nil, length-append}
use Rattle.std.proofs.lemmas.Str.{IsUtf8-nil}
use Rattle.picky_text.specs.Base64.{base64_of}
use Rattle.picky_text.specs.Words.{IsWord, behind_word, body_word, ends_word, first_word, rest_of_line, rest_text}
use Rattle.picky_text.proofs.ListLaws.{none_before_first, uncut}
use Rattle.picky_text.proofs.WordLaws.{base64_is_word, rest_text_is, trim_end_front, words_at_space}
use Rattle.picky_keys.specs.Blob.{blob_of}
use Rattle.picky_keys.specs.Key.{IsKey, kind_of}
use Rattle.picky_keys.specs.KeyNames.{kind_name}
use Rattle.picky_keys.specs.LineRefusal.{comment_text, line_meaning, words_meaning}
use Rattle.picky_keys.specs.carried.Blob.{blob_spells}
use Rattle.picky_keys.specs.declared.key.SshBasePublicKey.{SshBasePublicKey}
use Rattle.picky_keys.proofs.ByteLaws.{name_is_word}
use Rattle.picky_keys.proofs.LineLaws.{blob_is_bytes, body_key_of, named_of}
use Rattle.picky_cert.specs.Certificate.{bare}
use Rattle.picky_cert_field.specs.Fields.{bare_key_line}

-- no byte of a word ends it
stays : (word : List ℕ) → IsWord word → AllByRecursion (λ b. ends_word b ≡ false) word
unfolding first_word
stays word is =
    subst (AllByRecursion (λ b. ends_word b ≡ false)) (words_at_space word [] is).0
    (none_before_first ends_word (word ++ 32 ∷ []))

-- nothing follows a word that stands alone
word_alone : (word : List ℕ) → IsWord word → (first_word word ≡ word) × (behind_word word ≡ [])
unfolding first_word behind_word
word_alone word is =
    let whole = uncut ends_word word (stays word is) in
    let after = elim (cases_Bool (slice_index word (position_or_len ends_word word) == 32)) as (λ _. behind_word word ≡ []) [
      | inl space ↦ rw space whole.1
      | inr other ↦ rw other refl
    ] in
    (whole.0, after)

-- nothing is left of an empty line
nothing_in_front : (front white : List ℕ) → front ++ white ≡ [] → front ≡ []
nothing_in_front [] white none = refl
nothing_in_front (b ∷ front) white none = cc none

empty_rest : rest_of_line [] ≡ []
unfolding rest_of_line
empty_rest =
    let front = trim_end_front [] IsUtf8-nil in
    nothing_in_front (trim_end []) front.0 front.1

-- the line's words
record AreWords (line name body : List ℕ) : Type 0 where
  name_is : first_word line ≡ name
  body_is : body_word line ≡ body
  comment_is : comment_text line ≡ Some []

line_words : (key : SshBasePublicKey) → IsKey key
    → AreWords (bare_key_line key) (kind_name (kind_of key)) (base64_of (blob_of key))
unfolding bare_key_line
line_words key is =
    let name = words_at_space (kind_name (kind_of key)) (base64_of (blob_of key)) (name_is_word (kind_of key)) in
    let body = word_alone (base64_of (blob_of key)) (base64_is_word (blob_of key) (blob_is_bytes key is)) in
    let behind = ap behind_word name.1 ∙ body.1 in
    record {
      name_is = name.0;
      body_is = ap first_word name.1 ∙ body.0;
      comment_is = ap rest_text behind ∙ rest_text_is [] IsUtf8-nil ∙ ap Some empty_rest;
    }

body_within : (key : SshBasePublicKey) → length (bare_key_line key) < 2 ^ 32 → length (base64_of (blob_of key)) < 2 ^ 32
unfolding bare_key_line
body_within key short =
    omega (arith, short, length-append (kind_name (kind_of key)) (32 ∷ base64_of (blob_of key)))

pub bare_line_reads_back : (key : SshBasePublicKey) → IsKey key → length (bare_key_line key) < 2 ^ 32
    → line_meaning (bare_key_line key) ≡ Ok (bare key)
unfolding line_meaning words_meaning
bare_line_reads_back key is short =
    let words = line_words key is in
    let named = named_of (first_word (bare_key_line key)) (kind_of key) words.name_is in
    let body = body_key_of (base64_of (blob_of key)) (blob_of key) [] key (blob_is_bytes key is) refl
    (blob_of key, blob_spells key is, sym (append-nil (blob_of key))) in
    rw (named, words.comment_is, words.body_is, lt-ltb (length (base64_of (blob_of key))) (2 ^ 32) (body_within key short), body) refl
