-- A text and its cut, line by line.
use Rattle.std.proofs.Common.{◌≡◌, ◌≢◌, ◌⊎◌, ℕ, ◌+◌, ◌-◌, ◌==◌, ◌||◌, true, false, List, [], ◌∷◌, ◌++◌}
use Rattle.std.proofs.Common.{length, slice_index, take, Option, Some, None, refl, sym, ◌∙◌, ap, arith, inl, inr, subst}
use Rattle.std.proofs.lemmas.Bool.{cases_Bool, cases_eq, eqb-true, ne_eqb, or_cases, false_from_ne_true}
use Rattle.std.proofs.lemmas.List.{append_assoc, append-nil, same_from_push, take_more, take_all}
use Rattle.std.proofs.lemmas.List.{length-append, take_at}
use Rattle.std.proofs.lemmas.Slice.Eq.{bytes_eq-Decides}
use Rattle.std.specs.List.{concat, onto_first}
use Rattle.std.specs.Str.{bytes_eq}
use Rattle.std.specs.Str.Lines.{strip_carriage_return}
use Rattle.picky_text.specs.Lines.{HasNo}
use Rattle.picky_text.proofs.LineLaws.{cr_is_stripped}
use Rattle.picky_text.proofs.ListLaws.{all_append}
use Rattle.picky_issuing.specs.Parts.{mark_word, mark_lf, mark_cr_lf, is_mark, lines_with_ends, with_issuer_line, cut_lines}
use Rattle.picky_issuing.specs.Parts.{cut}

-- ---- the lines of a text

-- what holds of a text without LF, and of a line before a text of which it holds, holds of each text
by_lines_from : (P : List ℕ → Type 0) → ((line : List ℕ) → HasNo 10 line → P line)
    → ((line more : List ℕ) → HasNo 10 line → P more → P (line ++ 10 ∷ more))
    → (front text : List ℕ) → HasNo 10 front → P (front ++ text)
by_lines_from P last next front [] none = subst P (sym (append-nil front)) (last front none)
by_lines_from P last next front (b ∷ text) none = elim (cases_eq b 10) [
  | inl lf ↦
      subst P (ap (λ c. front ++ c ∷ text) (sym lf))
      (next front text none (by_lines_from P last next [] text tt))
  | inr other ↦
      subst P (append_assoc front (b ∷ []) text)
      (by_lines_from P last next (front ++ b ∷ []) text (all_append (λ c. c ≢ 10) front (b ∷ []) none (other, tt)))
]

pub by_lines : (P : List ℕ → Type 0) → ((line : List ℕ) → HasNo 10 line → P line)
    → ((line more : List ℕ) → HasNo 10 line → P more → P (line ++ 10 ∷ more))
    → (text : List ℕ) → P text
by_lines P last next text = by_lines_from P last next [] text tt

-- a line up to its LF is the first
pub lines_at_lf : (line more : List ℕ) → HasNo 10 line
    → lines_with_ends (line ++ 10 ∷ more) ≡ (line ++ 10 ∷ []) ∷ lines_with_ends more
lines_at_lf [] more none = refl
lines_at_lf (b ∷ line) more none =
    rw (ne_eqb b 10 none.0) (ap (onto_first b) (lines_at_lf line more none.1))

-- a text without LF is one line
pub one_line_left : (b : ℕ) (line : List ℕ) → HasNo 10 (b ∷ line) → lines_with_ends (b ∷ line) ≡ (b ∷ line) ∷ []
one_line_left b [] none = rw (ne_eqb b 10 none.0) refl
one_line_left b (c ∷ line) none =
    rw (ne_eqb b 10 none.0) (ap (onto_first b) (one_line_left c line none.1))

joined_onto : (b : ℕ) (parts : List (List ℕ)) → concat (onto_first b parts) ≡ b ∷ concat parts
joined_onto b [] = refl
joined_onto b (part ∷ parts) = refl

-- the lines with their ends are the text
pub lines_joined : (text : List ℕ) → concat (lines_with_ends text) ≡ text
lines_joined [] = refl
lines_joined (b ∷ text) = elim (cases_Bool (b == 10)) [
  | inl lf ↦ rw lf (ap (λ l. 10 ∷ l) (lines_joined text) ∙ ap (λ c. c ∷ text) (sym (eqb-true b 10 lf)))
  | inr other ↦ rw other (joined_onto b (lines_with_ends text) ∙ ap (λ l. b ∷ l) (lines_joined text))
]

-- ---- the mark

pub is_or_not : (line word : List ℕ) → (line ≡ word) ⊎ (line ≢ word)
is_or_not line word = elim (cases_Bool (bytes_eq line word)) [
  | inl same ↦ inl ((bytes_eq-Decides line word).0 same)
  | inr other ↦ inr (λ same. cc (other, (bytes_eq-Decides line word).1 same))
]

-- a line before LF is the mark where it is `%%`, or `%%` CR
pub stripped_is_mark : (line : List ℕ) → strip_carriage_return line ≡ mark_word
    → (line ≡ mark_word) ⊎ (line ≡ mark_word ++ 13 ∷ [])
stripped_is_mark [] is = cc is
stripped_is_mark (b ∷ more) is =
    let line : List ℕ = b ∷ more in
    let i : ℕ = length line - 1 in
    elim (cases_Bool (slice_index line i == 13)) [
      | inl cr ↦
          let front : take i line ≡ mark_word = rw cr at is in
          let all : take (i + 1) line ≡ line = take_all (i + 1) line (omega arith) in
          inr (sym all ∙ take_more line i 0 (omega arith) ∙ ap (λ l. l ++ slice_index line i ∷ []) front
          ∙ ap (λ c. mark_word ++ c ∷ []) (eqb-true _ 13 cr))
      | inr other ↦ inl (rw other at is)
    ]

-- such a line is `%%` without its end
word_is_mark : (line : List ℕ) → line ≡ mark_word → strip_carriage_return line ≡ mark_word
word_is_mark line is = ap strip_carriage_return is

word_cr_is_mark : (line : List ℕ) → line ≡ mark_word ++ 13 ∷ [] → strip_carriage_return line ≡ mark_word
word_cr_is_mark line is = ap strip_carriage_return is ∙ cr_is_stripped mark_word

-- a line with an LF that is the mark is `%%` without its end
pub marked_line : (line : List ℕ) → is_mark (line ++ 10 ∷ []) ≡ true → strip_carriage_return line ≡ mark_word
marked_line line is =
    let whole : List ℕ = line ++ 10 ∷ [] in
    elim (or_cases (bytes_eq whole mark_word || bytes_eq whole mark_lf) (bytes_eq whole mark_cr_lf) is) [
      | inl lone ↦ elim (or_cases (bytes_eq whole mark_word) (bytes_eq whole mark_lf) lone) [
        | inl word ↦ cc ((same_from_push line (37 ∷ []) 10 37 ((bytes_eq-Decides whole mark_word).0 word)).1)
        | inr lf ↦
            word_is_mark line
            (same_from_push line mark_word 10 10 ((bytes_eq-Decides whole mark_lf).0 lf)).0
      ]
      | inr cr_lf ↦
          word_cr_is_mark line
          (same_from_push line (mark_word ++ 13 ∷ []) 10 10 ((bytes_eq-Decides whole mark_cr_lf).0 cr_lf)).0
    ]

-- and one without an LF is `%%`
pub marked_end : (line : List ℕ) → HasNo 10 line → is_mark line ≡ true → line ≡ mark_word
marked_end line none is =
    let P : List ℕ → Type 0 = HasNo 10 in
    elim (or_cases (bytes_eq line mark_word || bytes_eq line mark_lf) (bytes_eq line mark_cr_lf) is) [
      | inl lone ↦ elim (or_cases (bytes_eq line mark_word) (bytes_eq line mark_lf) lone) [
        | inl word ↦ (bytes_eq-Decides line mark_word).0 word
        | inr lf ↦ absurd ((subst P ((bytes_eq-Decides line mark_lf).0 lf) none).1.1.0 refl)
      ]
      | inr cr_lf ↦ absurd ((subst P ((bytes_eq-Decides line mark_cr_lf).0 cr_lf) none).1.1.1.0 refl)
    ]

-- ---- the cut

-- at a mark that an LF ends
pub cut_at_lf : (key : List ℕ) → cut (mark_lf ++ key) ≡ Some ([], key)
cut_at_lf key = ap (λ l. Some ([], l)) (lines_joined key)

pub cut_at_cr_lf : (key : List ℕ) → cut (mark_cr_lf ++ key) ≡ Some ([], key)
cut_at_cr_lf key = ap (λ l. Some ([], l)) (lines_joined key)

pub cut_at_mark : (line more : List ℕ) → strip_carriage_return line ≡ mark_word
    → cut (line ++ 10 ∷ more) ≡ Some ([], more)
cut_at_mark line more is = elim (stripped_is_mark line is) [
  | inl word ↦ ap (λ l. cut (l ++ 10 ∷ more)) word ∙ cut_at_lf more
  | inr word_cr ↦ ap (λ l. cut (l ++ 10 ∷ more)) word_cr ∙ cut_at_cr_lf more
]

-- at a mark with which the text ends
pub cut_at_end : (line : List ℕ) → line ≡ mark_word → cut line ≡ Some ([], [])
cut_at_end line is = ap cut is

-- past another line
pub cut_goes_on : (line more : List ℕ) → HasNo 10 line → strip_carriage_return line ≢ mark_word
    → cut (line ++ 10 ∷ more) ≡ with_issuer_line (line ++ 10 ∷ []) (cut more)
cut_goes_on line more none other =
    let not : is_mark (line ++ 10 ∷ []) ≡ false = false_from_ne_true _ (λ is. other (marked_line line is)) in
    ap cut_lines (lines_at_lf line more none) ∙ rw not refl

-- and at another last line there is none
pub cut_ends : (line : List ℕ) → HasNo 10 line → line ≢ mark_word → cut line ≡ None
cut_ends [] none other = refl
cut_ends (b ∷ line) none other =
    let not : is_mark (b ∷ line) ≡ false = false_from_ne_true _ (λ is. other (marked_end (b ∷ line) none is)) in
    ap cut_lines (one_line_left b line none) ∙ rw not refl

after_nothing : (parts : Option (List ℕ × List ℕ)) → with_issuer_line [] parts ≡ parts
after_nothing None = refl
after_nothing (Some parts) = refl

after_both : (xs ys : List ℕ) (parts : Option (List ℕ × List ℕ))
    → with_issuer_line xs (with_issuer_line ys parts) ≡ with_issuer_line (xs ++ ys) parts
after_both xs ys None = refl
after_both xs ys (Some parts) = ap (λ l. Some (l, parts.1)) (sym (append_assoc xs ys parts.0))

-- ---- a text that is read line by line

-- none of the lines before the rest is the mark
pub record IsReadTo (text rest : List ℕ) : Type 0 where
  pub before : List ℕ
  pub whole : text ≡ before ++ rest
  pub same : cut text ≡ with_issuer_line before (cut rest)

pub read_none : (text : List ℕ) → IsReadTo text text
read_none text = record { before = []; whole = refl; same = sym (after_nothing (cut text)) }

pub read_more : (text rest line more : List ℕ) → IsReadTo text rest → rest ≡ line ++ 10 ∷ more → HasNo 10 line
    → line ≢ mark_word → line ≢ mark_word ++ 13 ∷ [] → IsReadTo text more
read_more text rest line more read is none not_word not_cr =
    let other : strip_carriage_return line ≢ mark_word =
    λ mark. elim (stripped_is_mark line mark) [ inl word ↦ not_word word | inr cr ↦ not_cr cr ] in
    let front : List ℕ = line ++ 10 ∷ [] in
    record {
      before = read.before ++ front;
      whole = read.whole ∙ ap (λ l. read.before ++ l) is ∙ simp append_assoc;
      same =
          read.same ∙ ap (λ l. with_issuer_line read.before (cut l)) is
          ∙ ap (with_issuer_line read.before) (cut_goes_on line more none other)
          ∙ after_both read.before front (cut more);
    }

-- at the mark, what was read is the issuer's text
pub cut_of_read : (text rest key : List ℕ) → IsReadTo text rest → cut rest ≡ Some ([], key)
    → cut text ≡ Some (take (length text - length rest) text, key)
cut_of_read text rest key read is =
    let n : length read.before ≡ length text - length rest =
    omega (arith, ap length read.whole, length-append read.before rest) in
    let front : take (length text - length rest) text ≡ read.before =
    ap (take (length text - length rest)) read.whole ∙ take_at read.before rest _ n in
    read.same ∙ ap (with_issuer_line read.before) is
    ∙ ap (λ l. Some (l, key)) (append-nil read.before ∙ sym front)

-- and where no mark comes, there is none
pub uncut_of_read : (text rest : List ℕ) → IsReadTo text rest → HasNo 10 rest → rest ≢ mark_word
    → cut text ≡ None
uncut_of_read text rest read none other =
    read.same ∙ ap (with_issuer_line read.before) (cut_ends rest none other)

-- what a comparison says
pub is_word : (line word : List ℕ) → true ≡ bytes_eq line word → line ≡ word
is_word line word is = (bytes_eq-Decides line word).0 (sym is)

pub is_other : (line word : List ℕ) → false ≡ bytes_eq line word → line ≢ word
is_other line word is same = cc (is, (bytes_eq-Decides line word).1 same)

-- the cut of what is left at a line that is the mark
pub cut_at_word : (rest line more : List ℕ) → rest ≡ line ++ 10 ∷ more → line ≡ mark_word
    → cut rest ≡ Some ([], more)
cut_at_word rest line more is word = ap cut is ∙ cut_at_mark line more (word_is_mark line word)

pub cut_at_word_cr : (rest line more : List ℕ) → rest ≡ line ++ 10 ∷ more → line ≡ mark_word ++ 13 ∷ []
    → cut rest ≡ Some ([], more)
cut_at_word_cr rest line more is word = ap cut is ∙ cut_at_mark line more (word_cr_is_mark line word)
