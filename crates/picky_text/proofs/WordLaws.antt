-- The laws of a key line's words.
use Rattle.std.proofs.Common.{◌≡◌, ◌≢◌, ℕ, ◌<◌, ◌+◌, ◌-◌, ◌==◌, ◌&&◌, Bool, true, false, not, List, [], ◌∷◌}
use Rattle.std.proofs.Common.{◌++◌, length, slice_index, refl, sym, ◌∙◌, ap, arith, inl, inr, subst, ◌≤◌}
use Rattle.std.proofs.Common.{Some, None, drop}
use Rattle.std.proofs.lemmas.Bool.{cases_Bool, cases_lt, and_parts, and_from, eqb-true, eq-eqb}
use Rattle.std.proofs.lemmas.Bool.Decides.{nat_tests}
use Rattle.std.proofs.lemmas.List.{append_assoc, get_or_past, length-append, length-drop, length-take}
use Rattle.std.proofs.lemmas.List.{drop-drop}
use Rattle.std.proofs.Math.Seq.{drop-length}
use Rattle.std.proofs.lemmas.List.Sums.{prefix_len-le-length, passes_at_first}
use Rattle.std.proofs.lemmas.Str.{encodes-append, encodes-chars, scalars-chars, chars-encodes, IsUtf8-nil}
use Rattle.std.proofs.lemmas.Str.{IsUtf8-take, IsUtf8-drop, IsCharBoundary-before_ascii}
use Rattle.std.proofs.lemmas.Str.{IsCharBoundary-after_ascii, IsCharBoundary-end, IsCharBoundary-from_drop}
use Rattle.std.proofs.lemmas.Str.{is_utf8-from_IsUtf8, IsUtf8-from_is_utf8}
use Rattle.std.specs.Char.{is_whitespace}
use Rattle.std.specs.List.{AllByRecursion, position_or_len}
use Rattle.std.specs.Str.{IsUtf8, IsCharBoundary, chars, trim_end, drop_trailing_whitespace, is_utf8}
use Rattle.std.specs.Str.{encode_utf8_all, all_scalars}
use Rattle.base64.specs.GeneralPurpose.{IsBytes}
use Rattle.picky_text.specs.Words.{ends_word, ends_line, first_word, behind_word, line_in_front}
use Rattle.picky_text.specs.Words.{rest_of_line, rest_text, after_body, comment_of, IsWord, AreParts}
use Rattle.picky_text.specs.Words.{HasParts, IsRead}
use Rattle.picky_text.specs.Base64.{base64_of}
use Rattle.picky_text.proofs.Base64Laws.{base64_has_no}
use Rattle.picky_text.proofs.ListLaws.{all_front, all_weaker, none_before_first, cut_at_first, uncut}
use Rattle.picky_text.specs.Lines.{HasNo, end_bytes}
use Rattle.picky_text.specs.declared.lines.LineEnd.{LineEnd}
use Rattle.picky_text.specs.declared.lines.LineEnd.TheVariants.{Lf, CrLf}

-- ---- white space at the end

-- the characters less the white space at their end are a front of them
trimmed_front : (cs : List ℕ) → (white : List ℕ) × (drop_trailing_whitespace cs ++ white ≡ cs)
trimmed_front [] = ([], refl)
trimmed_front (c ∷ cs) =
    let rest : List ℕ = drop_trailing_whitespace cs in
    let front = trimmed_front cs in
    elim (cases_Bool (is_whitespace c && length rest == 0)) [
      | inl white ↦ (c ∷ cs, rw white refl)
      | inr kept ↦ (front.0, rw kept (ap (λ l. c ∷ l) front.1))
    ]

-- nothing is left to trim
trimmed_again : (cs : List ℕ)
    → drop_trailing_whitespace (drop_trailing_whitespace cs) ≡ drop_trailing_whitespace cs
trimmed_again [] = refl
trimmed_again (c ∷ cs) =
    let rest : List ℕ = drop_trailing_whitespace cs in
    elim (cases_Bool (is_whitespace c && length rest == 0)) [
      | inl white ↦ rw white refl
      | inr kept ↦ rw (kept, trimmed_again cs, kept) refl
    ]

-- and they are characters
trimmed_scalars : (cs : List ℕ) → all_scalars cs ≡ true
    → all_scalars (drop_trailing_whitespace cs) ≡ true
trimmed_scalars [] scalars = refl
trimmed_scalars (c ∷ cs) scalars =
    let parts = and_parts _ _ scalars in
    elim (cases_Bool (is_whitespace c && length (drop_trailing_whitespace cs) == 0)) [
      | inl white ↦ rw white refl
      | inr kept ↦ rw kept (and_from _ _ parts.0 (trimmed_scalars cs parts.1))
    ]

-- a text less the white space at its end is a front of it
pub trim_end_front : (text : List ℕ) → IsUtf8 text
    → (white : List ℕ) × (trim_end text ++ white ≡ text)
unfolding trim_end
trim_end_front text utf8 =
    let front = trimmed_front (chars text) in (
      encode_utf8_all front.0,
      sym (encodes-append (drop_trailing_whitespace (chars text)) front.0)
          ∙ ap encode_utf8_all front.1 ∙ encodes-chars text utf8,
    )

-- and ends in no white space
pub trim_end-trim_end : (text : List ℕ) → IsUtf8 text → trim_end (trim_end text) ≡ trim_end text
unfolding trim_end
trim_end-trim_end text utf8 =
    let cs : List ℕ = drop_trailing_whitespace (chars text) in
    let same : chars (encode_utf8_all cs) ≡ cs = chars-encodes cs
    (trimmed_scalars (chars text) (scalars-chars text utf8)) in
    ap (λ l. encode_utf8_all (drop_trailing_whitespace l)) same
    ∙ ap encode_utf8_all (trimmed_again (chars text))

-- and is a text
pub IsUtf8-trim_end : (text : List ℕ) → IsUtf8 text → IsUtf8 (trim_end text)
unfolding trim_end
IsUtf8-trim_end text utf8 = (
  drop_trailing_whitespace (chars text),
  (trimmed_scalars (chars text) (scalars-chars text utf8), refl),
)

-- ---- words

-- a byte that ends a word is ASCII
pub ends_word_ascii : (b : ℕ) → ends_word b ≡ true → b < 128
ends_word_ascii b ends = grind (arith, nat_tests)

-- and so is one that ends a line
pub ends_line_ascii : (b : ℕ) → ends_line b ≡ true → b < 128
ends_line_ascii b ends = grind (arith, nat_tests)

-- no other byte ends a word
goes_on : (b : ℕ) → b ≢ 32 → b ≢ 13 → b ≢ 10 → ends_word b ≡ false
goes_on b space cr lf = grind (arith, nat_tests)

-- the same of a line
line_goes_on : (b : ℕ) → b ≢ 13 → b ≢ 10 → ends_line b ≡ false
line_goes_on b cr lf = grind (arith, nat_tests)

-- so none of a word does
stays_word : (bytes : List ℕ) → IsWord bytes → AllByRecursion (λ b. ends_word b ≡ false) bytes
stays_word [] word = tt
stays_word (b ∷ bytes) word =
    (goes_on b word.0.0 word.1.0 word.2.0, stays_word bytes (word.0.1, word.1.1, word.2.1))

pub stays_line : (bytes : List ℕ) → HasNo 13 bytes → HasNo 10 bytes
    → AllByRecursion (λ b. ends_line b ≡ false) bytes
stays_line [] cr lf = tt
stays_line (b ∷ bytes) cr lf = (line_goes_on b cr.0 lf.0, stays_line bytes cr.1 lf.1)

-- a byte that ends no line is neither CR nor LF
no_cr : (b : ℕ) → ends_line b ≡ false → b ≢ 13
no_cr b stays = grind (arith, nat_tests)

no_lf : (b : ℕ) → ends_line b ≡ false → b ≢ 10
no_lf b stays = grind (arith, nat_tests)

-- a text may be cut before its first byte that passes, where that is ASCII
pub boundary_of_first : (ends : ℕ → Bool) (text : List ℕ) → ((b : ℕ) → ends b ≡ true → b < 128)
    → IsCharBoundary text (position_or_len ends text)
boundary_of_first ends text ascii =
    let n : ℕ = position_or_len ends text in
    elim (cases_lt n (length text)) [
      | inl lt ↦ IsCharBoundary-before_ascii text n lt (ascii _ (passes_at_first ends text 0 lt))
      | inr past ↦
          let end : length text ≡ n = omega (arith, prefix_len-le-length (λ b. not (ends b)) text)
          in
          rw (← end) (IsCharBoundary-end text)
    ]

-- the first word of a text is a text
pub first_word_is_text : (text : List ℕ) → IsUtf8 text → IsUtf8 (first_word text)
unfolding first_word
first_word_is_text text utf8 = IsUtf8-take text _ utf8
    (boundary_of_first ends_word text ends_word_ascii)

-- a space stands within its text
space_within : (text : List ℕ) (n : ℕ) → (slice_index text n == 32) ≡ true → n < length text
space_within text n space = elim (cases_lt n (length text)) [
  | inl lt ↦ lt
  | inr past ↦ absurd (omega (arith, eqb-true _ _ space, get_or_past text n 0 past))
]

-- so is what follows it
pub after_word_is_text : (text : List ℕ) → IsUtf8 text → IsUtf8 (behind_word text)
unfolding behind_word
after_word_is_text text utf8 =
    let n : ℕ = position_or_len ends_word text in
    elim (cases_Bool (slice_index text n == 32)) [
      | inl space ↦
          let within = space_within text n space in
          rw space (IsUtf8-drop text (n + 1) utf8 (IsCharBoundary-after_ascii text n utf8 within
          (omega (arith, eqb-true _ _ space))))
      | inr other ↦ rw other IsUtf8-nil
    ]

-- the line in front of a text is a text
pub line_is_text : (text : List ℕ) → IsUtf8 text → IsUtf8 (line_in_front text)
line_is_text text utf8 = IsUtf8-take text _ utf8
    (boundary_of_first ends_line text ends_line_ascii)

-- so is what stands in it after the second word
pub comment_is_text : (text : List ℕ) → IsUtf8 text → IsUtf8 (line_in_front (after_body text))
comment_is_text text utf8 =
    let body = after_word_is_text text utf8 in
    line_is_text (after_body text) (after_word_is_text (behind_word text) body)

-- the rest of a line of UTF-8 is a text
pub rest_of_line_is_text : (text : List ℕ) → IsUtf8 (line_in_front text)
    → IsUtf8 (rest_of_line text)
unfolding rest_of_line
rest_of_line_is_text text utf8 = IsUtf8-trim_end _ utf8

-- ---- the rest of a line

-- where the line is UTF-8, its rest is a text
pub rest_text_is : (text : List ℕ) → IsUtf8 (line_in_front text)
    → rest_text text ≡ Some (rest_of_line text)
unfolding rest_text
rest_text_is text utf8 = rw (is_utf8-from_IsUtf8 _ utf8) refl

-- and of another line there is none
pub rest_text_none : (text : List ℕ) → (IsUtf8 (line_in_front text) → ⊥) → rest_text text ≡ None
unfolding rest_text
rest_text_none text other = elim (cases_Bool (is_utf8 (line_in_front text))) [
  | inl is ↦ absurd (other (IsUtf8-from_is_utf8 _ is))
  | inr not ↦ rw not refl
]

pub ruleset rest_texts = (rest_text_is, rest_text_none)

-- so where there is one, the line is UTF-8
pub rest_text_says : (text rest : List ℕ) → rest_text text ≡ Some rest
    → IsUtf8 (line_in_front text) × (rest_of_line text ≡ rest)
unfolding rest_text
rest_text_says text rest says = elim (cases_Bool (is_utf8 (line_in_front text))) [
  | inl is ↦
      let same : Some (rest_of_line text) ≡ Some rest = rw is at says in
      (IsUtf8-from_is_utf8 _ is, cc same)
  | inr not ↦ let none : None ≡ Some rest = rw not at says in cc none
]

-- no byte of the rest of a line ends a line
rest_stays : (text : List ℕ) → IsUtf8 (line_in_front text)
    → AllByRecursion (λ b. ends_line b ≡ false) (rest_of_line text)
unfolding rest_of_line
rest_stays text utf8 =
    let front = trim_end_front (line_in_front text) utf8 in
    let P : ℕ → Type 0 = λ b. ends_line b ≡ false in
    let Q : List ℕ → Type 0 = AllByRecursion P in
    all_front P _ front.0 (subst Q (sym front.1) (none_before_first ends_line text))

-- the rest of a line has no LF
pub rest_has_no_lf : (text : List ℕ) → IsUtf8 (line_in_front text) → HasNo 10 (rest_of_line text)
rest_has_no_lf text utf8 = all_weaker _ (λ b. b ≢ 10) no_lf _ (rest_stays text utf8)

-- the rest of a line has no CR
pub rest_has_no_cr : (text : List ℕ) → IsUtf8 (line_in_front text) → HasNo 13 (rest_of_line text)
rest_has_no_cr text utf8 = all_weaker _ (λ b. b ≢ 13) no_cr _ (rest_stays text utf8)

-- the rest of a line ends in no white space
pub rest_is_trimmed : (text : List ℕ) → IsUtf8 (line_in_front text)
    → trim_end (rest_of_line text) ≡ rest_of_line text
unfolding rest_of_line
rest_is_trimmed text utf8 = trim_end-trim_end _ utf8

-- a text may be cut where its line ends
pub line_ends_at_boundary : (text : List ℕ) → IsCharBoundary text (position_or_len ends_line text)
line_ends_at_boundary text = boundary_of_first ends_line text ends_line_ascii

-- ---- parts are no longer than the whole

pub word_len : (text : List ℕ) → length (first_word text) ≤ length text
unfolding first_word
word_len text = omega (arith, length-take (position_or_len ends_word text) text)

pub after_len : (text : List ℕ) → length (behind_word text) ≤ length text
unfolding behind_word
after_len text = elim (cases_Bool (slice_index text (position_or_len ends_word text) == 32)) [
  | inl space ↦ rw space (omega (arith, length-drop (position_or_len ends_word text + 1) text))
  | inr other ↦ rw other (omega arith)
]

-- what follows a word is the text's end
pub after_word_is_end : (text : List ℕ) → drop (length text - length (behind_word text)) text ≡ behind_word text
unfolding behind_word
after_word_is_end text =
    let n : ℕ = position_or_len ends_word text in
    elim (cases_Bool (slice_index text n == 32)) [
      | inl space ↦
          let within = space_within text n space in
          let from : length text - length (drop (n + 1) text) ≡ n + 1 =
          omega (arith, length-drop (n + 1) text) in
          rw space (ap (λ i. drop i text) from)
      | inr other ↦
          let all : length text - 0 ≡ length text = omega arith in
          rw other (ap (λ i. drop i text) all ∙ drop-length text)
    ]

-- and so is what follows the second: a text may be cut there
pub after_body_is_end : (text : List ℕ) → drop (length text - length (after_body text)) text ≡ after_body text
after_body_is_end text =
    let rest : List ℕ = behind_word text in
    let n : ℕ = length text - length rest in
    let m : ℕ = length rest - length (behind_word rest) in
    let whole : drop n text ≡ rest = after_word_is_end text in
    let from : length text - length (behind_word rest) ≡ n + m = omega (arith, after_len text, after_len rest) in
    ap (λ i. drop i text) from ∙ sym (drop-drop m n text) ∙ ap (drop m) whole ∙ after_word_is_end rest

pub body_ends_at_boundary : (text : List ℕ) → IsUtf8 text
    → IsCharBoundary text (length text - length (after_body text))
body_ends_at_boundary text utf8 =
    IsCharBoundary-from_drop text _ (omega arith) (subst IsUtf8 (sym (after_body_is_end text))
    (after_word_is_text _ (after_word_is_text text utf8)))

pub rest_of_end : (text : List ℕ) → IsUtf8 text
    → rest_text (after_body text) ≡ Some (rest_of_line (drop (length text - length (after_body text)) text))
rest_of_end text utf8 =
    rw (after_body_is_end text) (rest_text_is (after_body text) (comment_is_text text utf8))

-- so the comment of a text is taken without a look at its bytes
pub ruleset text_rests = (after_len, body_ends_at_boundary, rest_of_end)

pub comment_len : (text : List ℕ) → IsUtf8 text → length (comment_of text) ≤ length text
unfolding rest_of_line
comment_len text utf8 =
    let rest : List ℕ = after_body text in
    let front = trim_end_front (line_in_front rest) (comment_is_text text utf8) in
    omega (
      arith,
      ap length front.1,
      length-append (trim_end (line_in_front rest)) front.0,
      length-take (position_or_len ends_line rest) rest,
      after_len (behind_word text),
      after_len text,
    )

-- ---- a line of three parts

-- a word, and what follows the space that ends it
pub words_at_space : (word rest : List ℕ) → IsWord word
    → (first_word (word ++ 32 ∷ rest) ≡ word) × (behind_word (word ++ 32 ∷ rest) ≡ rest)
unfolding first_word behind_word
words_at_space word rest is =
    let parts = cut_at_first ends_word word 32 rest (stays_word word is) refl in
    (parts.before, rw (eq-eqb _ _ parts.at) parts.after)

-- a line that ends in LF or CRLF
line_at_end : (line more : List ℕ) (end : LineEnd) → HasNo 13 line → HasNo 10 line
    → line_in_front (line ++ (end_bytes end ++ more)) ≡ line
line_at_end line more Lf cr lf =
    (cut_at_first ends_line line 10 more (stays_line line cr lf) refl).before
line_at_end line more CrLf cr lf =
    (cut_at_first ends_line line 13 (10 ∷ more) (stays_line line cr lf) refl).before

-- or with the text
line_alone : (line : List ℕ) → HasNo 13 line → HasNo 10 line → line_in_front line ≡ line
line_alone line cr lf = (uncut ends_line line (stays_line line cr lf)).0

-- a line of such parts has them, whatever ends it
parts_before : (name body comment rest : List ℕ) → AreParts name body comment
    → line_in_front rest ≡ comment
    → HasParts (name ++ 32 ∷ body ++ 32 ∷ rest) name body comment
unfolding rest_of_line
parts_before name body comment rest parts is =
    let first = words_at_space name (body ++ 32 ∷ rest) parts.name_word in
    let second = words_at_space body rest parts.body_word in
    let whole = append_assoc name (32 ∷ body) (32 ∷ rest) in
    let line = ap line_in_front (ap behind_word first.1 ∙ second.1) ∙ is in
    rw whole (record {
      name_is = first.0;
      body_is = ap first_word first.1 ∙ second.0;
      line_is = line;
      comment_is = ap trim_end line ∙ parts.trimmed;
    })

-- each line of such parts is read back
pub key_line_is_read_back : (name body comment : List ℕ) → AreParts name body comment
    → IsRead name body comment
key_line_is_read_back name body comment parts end more =
    let rest : List ℕ = end_bytes end ++ more in
    let is = line_at_end comment more end parts.no_cr parts.no_lf in
    let whole = append_assoc (name ++ 32 ∷ body) (32 ∷ comment) rest in
    rw whole (parts_before name body comment (comment ++ rest) parts is)

-- and so is one that nothing ends
pub key_line_alone : (name body comment : List ℕ) → AreParts name body comment
    → HasParts (name ++ 32 ∷ body ++ 32 ∷ comment) name body comment
key_line_alone name body comment parts =
    parts_before name body comment comment parts (line_alone comment parts.no_cr parts.no_lf)

-- a base64 text may stand as a word
pub base64_is_word : (bytes : List ℕ) → IsBytes bytes → IsWord (base64_of bytes)
base64_is_word bytes small = (
  base64_has_no 32 bytes small refl,
  base64_has_no 13 bytes small refl,
  base64_has_no 10 bytes
      small refl,
)

-- what `laws` states of words
pub ruleset word_laws = (
  base64_is_word,
  rest_has_no_lf,
  rest_has_no_cr,
  rest_is_trimmed,
  first_word_is_text,
  after_word_is_text,
  line_is_text,
  rest_of_line_is_text,
)
