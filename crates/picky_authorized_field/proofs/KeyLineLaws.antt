-- What is written of a key that a line said is read as the same key and comment.
use Rattle.std.proofs.Common.{◌≡◌, ◌≢◌, ◌==◌, ◌^◌, ◌<◌, ℕ, false, List, [], ◌∷◌, ◌++◌, length, slice_index, refl, sym, ◌∙◌, ap}
use Rattle.std.proofs.Common.{Some, Ok, subst, arith, inl, inr}
use Rattle.std.proofs.lemmas.Bool.{cases_Bool}
use Rattle.std.proofs.lemmas.Bool.Decides.{nat_tests}
use Rattle.std.proofs.lemmas.List.{append-nil, length-append}
use Rattle.std.proofs.lemmas.Str.{IsUtf8-from_is_utf8}
use Rattle.std.specs.List.{AllByRecursion, position_or_len, slice_get}
use Rattle.std.specs.Str.{IsUtf8, is_utf8, trim_end}
use Rattle.picky_wire_base.specs.carried.Outcome.{map_err_ok}
use Rattle.picky_wire_base.specs.Numbers.{IsBytes}
use Rattle.picky_wire_base.proofs.Numbers.{bytes_in_front}
use Rattle.picky_text.specs.Words.{AreParts, HasParts, IsWord, after_body, behind_word, ends_word, first_word}
use Rattle.picky_text.specs.Words.{line_in_front, rest_of_line}
use Rattle.picky_text.proofs.ListLaws.{uncut}
use Rattle.picky_text.proofs.WordLaws.{base64_is_word, key_line_alone, rest_has_no_cr, rest_has_no_lf, rest_is_trimmed}
use Rattle.picky_text.proofs.WordLaws.{rest_of_line_is_text, words_at_space}
use Rattle.picky_keys.specs.Blob.{blob_of}
use Rattle.picky_keys.specs.Key.{IsKey, kind_of}
use Rattle.picky_keys.specs.Line.{IsPublicLine, line_body, line_name}
use Rattle.picky_keys.specs.LineRefusal.{is_short, line_meaning}
use Rattle.picky_keys.specs.carried.Blob.{blob_spells}
use Rattle.picky_keys.specs.declared.key.SshPublicKey.{SshPublicKey}
use Rattle.picky_keys.proofs.ByteLaws.{name_is_word, utf8_is_bytes}
use Rattle.picky_keys.proofs.KeyLaws.{spelled_is_key}
use Rattle.picky_keys.proofs.LineLaws.{blob_is_bytes, chosen, line_meaning_of}
use Rattle.picky_authorized.specs.declared.auth_option.AuthOption.{AuthOption}
use Rattle.picky_authorized.specs.declared.entry.AuthContent.TheVariants as contents
use Rattle.picky_authorized.specs.declared.entry.AuthEntry.{AuthEntry}
use Rattle.picky_authorized.specs.declared.keys.PolicyError.TheVariants as policies
use Rattle.picky_authorized.specs.Entries.{entries_in, keys_in}
use Rattle.picky_authorized_field.specs.Call.{entries_of}
use Rattle.picky_authorized_field.specs.Key.{comment_part, key_line}
use Rattle.picky_authorized_field.specs.Refusal.{refusal_of}
use Rattle.picky_authorized_field.specs.declared.error.AuthFieldError.TheVariants as errors
use Rattle.picky_authorized_field.proofs.SaidLemmas.{key_is_said}

-- ---- two words with nothing behind them

goes_on : (b : ℕ) → b ≢ 32 → b ≢ 13 → b ≢ 10 → ends_word b ≡ false
goes_on b space cr lf = grind (arith, nat_tests)

stays_word : (bytes : List ℕ) → IsWord bytes → AllByRecursion (λ b. ends_word b ≡ false) bytes
stays_word [] word = tt
stays_word (b ∷ bytes) word =
    (goes_on b word.0.0 word.1.0 word.2.0, stays_word bytes (word.0.1, word.1.1, word.2.1))

whole_word : (word : List ℕ) → IsWord word → first_word word ≡ word
unfolding first_word
whole_word word is = (uncut ends_word word (stays_word word is)).0

nothing_behind : (word : List ℕ) → IsWord word → behind_word word ≡ []
unfolding behind_word
nothing_behind word is =
    let none = (uncut ends_word word (stays_word word is)).1 in
    elim (cases_Bool (slice_index word (position_or_len ends_word word) == 32)) [
      | inl space ↦ rw space none
      | inr other ↦ rw other refl
    ]

no_line : line_in_front [] ≡ []
no_line = refl

two_words : (name body : List ℕ) → AreParts name body [] → HasParts (name ++ 32 ∷ body) name body []
unfolding rest_of_line
two_words name body parts =
    let at = words_at_space name body parts.name_word in
    let behind : after_body (name ++ 32 ∷ body) ≡ [] = ap behind_word at.1 ∙ nothing_behind body parts.body_word in
    let line : line_in_front (after_body (name ++ 32 ∷ body)) ≡ [] = ap line_in_front behind ∙ no_line in
    record {
      name_is = at.0;
      body_is = ap first_word at.1 ∙ whole_word body parts.body_word;
      line_is = line;
      comment_is = ap trim_end line ∙ parts.trimmed;
    }

written_parts : (name body comment : List ℕ) → AreParts name body comment
    → HasParts (name ++ 32 ∷ body ++ comment_part comment) name body comment
written_parts name body [] parts = rw (append-nil (name ++ 32 ∷ body)) (two_words name body parts)
written_parts name body (b ∷ more) parts = key_line_alone name body (b ∷ more) parts

-- ---- the line of a key that a line said

said_is_key : (line : List ℕ) (key : SshPublicKey) → IsPublicLine line key → IsKey key.inner_key
said_is_key line key said =
    spelled_is_key key.inner_key said.fits.0
    (bytes_in_front said.fits.0 said.rest (subst IsBytes said.fits.2 said.are_bytes)) said.fits.1

said_parts : (line : List ℕ) (key : SshPublicKey) → IsPublicLine line key → AreParts (line_name key) (line_body key) key.comment
said_parts line key said =
    let rest : List ℕ = after_body line in
    record {
      name_word = name_is_word (kind_of key.inner_key);
      body_word = base64_is_word (blob_of key.inner_key) (blob_is_bytes key.inner_key (said_is_key line key said));
      no_cr = rw said.comment (rest_has_no_cr rest said.comment_utf8);
      no_lf = rw said.comment (rest_has_no_lf rest said.comment_utf8);
      trimmed = rw said.comment (rest_is_trimmed rest said.comment_utf8);
    }

body_within : (key : SshPublicKey) → length (key_line key) < 2 ^ 32 → length (line_body key) < 2 ^ 32
body_within key short =
    omega (
      arith,
      length-append (line_name key ++ 32 ∷ line_body key) (comment_part key.comment),
      length-append (line_name key) (32 ∷ line_body key),
      short,
    )

line_says : (line : List ℕ) (key : SshPublicKey) → IsPublicLine line key → length (key_line key) < 2 ^ 32
    → IsPublicLine (key_line key) key
line_says line key said short =
    let is = written_parts (line_name key) (line_body key) key.comment (said_parts line key said) in
    let utf8 : IsUtf8 key.comment = rw said.comment (rest_of_line_is_text (after_body line) said.comment_utf8) in
    let within : length key.comment < 2 ^ 32 = rw said.comment said.comment_short in
    record {
      kind = kind_of key.inner_key;
      name = is.name_is;
      blob_bytes = blob_of key.inner_key;
      are_bytes = blob_is_bytes key.inner_key (said_is_key line key said);
      body = is.body_is;
      body_short = subst (λ w. length w < 2 ^ 32) (sym is.body_is) (body_within key short);
      rest = [];
      fits = (
        blob_of key.inner_key,
        blob_spells key.inner_key (said_is_key line key said),
        sym (append-nil (blob_of key.inner_key)),
      );
      comment = sym is.comment_is;
      comment_utf8 = subst IsUtf8 (sym is.line_is) utf8;
      comment_short = subst (λ w. length w < 2 ^ 32) (sym is.comment_is) within;
    }

-- the entries of a text that is UTF-8
text_and_entries : (text : List ℕ) (entries : List AuthEntry) → entries_of text ≡ Ok entries
    → IsBytes text × (entries_in text ≡ entries)
text_and_entries text entries is =
    let utf8 = chosen (is_utf8 text) _ errors.NotUtf8 entries is in
    let read = map_err_ok refusal_of (keys_in text) entries utf8.1 in
    let short = chosen (is_short text) _ policies.TooLong entries read in
    (utf8_is_bytes text (IsUtf8-from_is_utf8 text utf8.0), cc short.1)

pub key_line_reads_back : (text : List ℕ) (entries : List AuthEntry) (place : ℕ) (e : AuthEntry) (options : List AuthOption)
    (key : SshPublicKey) → entries_of text ≡ Ok entries → slice_get entries place ≡ Some e
    → e.content ≡ contents.Key options key → length (key_line key) < 2 ^ 32 → line_meaning (key_line key) ≡ Ok key
key_line_reads_back text entries place e options key is stands content short =
    let found = text_and_entries text entries is in
    let said = key_is_said text place e options key found.0
    (subst (λ es. slice_get es place ≡ Some e) (sym found.1) stands) content in
    line_meaning_of (key_line key) key (line_says said.0 key said.1 short)
