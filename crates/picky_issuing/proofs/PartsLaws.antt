-- The laws of the cut: it is what `IsCut` says, and there is none where no line is the mark.
use Rattle.std.proofs.Common.{◌≡◌, ◌≢◌, ◌↔◌, ◌⊎◌, ℕ, ◌<◌, ◌+◌, ◌-◌, ◌==◌, List, [], ◌∷◌, ◌++◌, length, slice_index}
use Rattle.std.proofs.Common.{false, zero, suc, Option, Some, None, refl, sym, ◌∙◌, ap, arith, inl, inr, subst}
use Rattle.std.proofs.lemmas.Bool.{ne_eqb}
use Rattle.std.proofs.lemmas.List.{append_assoc, get_or-append-add, length-append}
use Rattle.std.proofs.lemmas.List.Elements.{All-from_recursion}
use Rattle.std.proofs.lemmas.List.Splits.{slice_split_none}
use Rattle.std.specs.List.{AllByRecursion}
use Rattle.std.specs.Str.Lines.{strip_carriage_return, lines_of_parts}
use Rattle.picky_text.specs.Lines.{HasNo, lines}
use Rattle.picky_text.proofs.LineLaws.{first_line}
use Rattle.picky_text.proofs.ListLaws.{all_weaker}
use Rattle.picky_issuing.specs.Parts.{mark_word, mark_lf, mark_cr_lf, with_issuer_line, cut, HasNoMark, IsCut}
use Rattle.picky_issuing.specs.Parts.{issuer_text_of, key_text_of_cut, issuer_text_part, key_part}
use Rattle.picky_issuing.proofs.PartsLemmas.{by_lines, is_or_not, stripped_is_mark, cut_at_mark, cut_at_lf}
use Rattle.picky_issuing.proofs.PartsLemmas.{cut_at_cr_lf, cut_at_end, cut_goes_on, cut_ends}

-- ---- the lines of std's `lines`

-- a text without LF is one line, or none where it is empty
only_line : (b : ℕ) (line : List ℕ) → HasNo 10 (b ∷ line) → lines (b ∷ line) ≡ (b ∷ line) ∷ []
only_line b line none =
    let text : List ℕ = b ∷ line in
    let stays = all_weaker (λ b. b ≢ 10) (λ b. (b == 10) ≡ false) (λ b other. ne_eqb b 10 other) text none in
    ap lines_of_parts (slice_split_none (λ b. b == 10) text (All-from_recursion _ text stays))
    ∙ rw (ne_eqb (length text) 0 (omega arith)) refl

-- the lines before the mark, one more
no_mark_more : (line more : List ℕ) → HasNo 10 line → strip_carriage_return line ≢ mark_word → HasNoMark more
    → HasNoMark (line ++ 10 ∷ more)
no_mark_more line more none other rest =
    subst (AllByRecursion (λ l. l ≢ mark_word)) (sym (first_line line more none)) (other, rest)

no_mark_parts : (line more : List ℕ) → HasNo 10 line → HasNoMark (line ++ 10 ∷ more)
    → (strip_carriage_return line ≢ mark_word) × HasNoMark more
no_mark_parts line more none all = subst (AllByRecursion (λ l. l ≢ mark_word)) (first_line line more none) all

-- ---- a text that is empty or ends in LF

abbrev EndsInLf : List ℕ → Type 0
EndsInLf text = (text ≡ []) ⊎ (slice_index text (length text - 1) ≡ 10)

pub last_of : (xs ys : List ℕ) → 0 < length ys
    → slice_index (xs ++ ys) (length (xs ++ ys) - 1) ≡ slice_index ys (length ys - 1)
last_of xs ys some =
    let at : length (xs ++ ys) - 1 ≡ length xs + (length ys - 1) = omega (arith, length-append xs ys) in
    ap (λ i. slice_index (xs ++ ys) i) at ∙ get_or-append-add xs ys (length ys - 1) 0

-- a line more does
ends_more : (line front : List ℕ) → EndsInLf front
    → slice_index (line ++ 10 ∷ front) (length (line ++ 10 ∷ front) - 1) ≡ 10
ends_more line [] ended = last_of line (10 ∷ []) (omega arith)
ends_more line (b ∷ front) (inl empty) = cc empty
ends_more line (b ∷ front) (inr lf) =
    last_of line (10 ∷ b ∷ front) (omega arith) ∙ last_of (10 ∷ []) (b ∷ front) (omega arith) ∙ lf

-- and so does what follows a line
ends_rest : (line front : List ℕ) → EndsInLf (line ++ 10 ∷ front) → EndsInLf front
ends_rest line [] ended = inl refl
ends_rest line (b ∷ front) (inl empty) = absurd (omega (arith, ap length empty, length-append line (10 ∷ b ∷ front)))
ends_rest line (b ∷ front) (inr lf) =
    inr (sym (last_of line (10 ∷ b ∷ front) (omega arith) ∙ last_of (10 ∷ []) (b ∷ front) (omega arith)) ∙ lf)

no_lf_at : (text : List ℕ) → HasNo 10 text → (i : ℕ) → slice_index text i ≢ 10
no_lf_at [] none i = λ same. cc same
no_lf_at (b ∷ text) none zero = none.0
no_lf_at (b ∷ text) none (suc i) = no_lf_at text none.1 i

-- without LF it is empty
empty_line : (line : List ℕ) → HasNo 10 line → EndsInLf line → line ≡ []
empty_line line none (inl empty) = empty
empty_line line none (inr lf) = absurd (no_lf_at line none (length line - 1) lf)

-- ---- what is cut is as `IsCut` says

moved : (text : List ℕ) (a b : List ℕ × List ℕ) → Some a ≡ Some b → IsCut text a.0 a.1 → IsCut text b.0 b.1
moved text a b same is = let pair : a ≡ b = cc same in subst (λ (p : List ℕ × List ℕ). IsCut text p.0 p.1) pair is

cut_here : (line more : List ℕ) → strip_carriage_return line ≡ mark_word → IsCut (line ++ 10 ∷ more) [] more
cut_here line more is = elim (stripped_is_mark line is) [
  | inl word ↦ record {
    mark = mark_lf;
    is_mark = inl refl;
    whole = ap (λ l. l ++ 10 ∷ more) word;
    ended = inl refl;
    first = tt;
  }
  | inr word_cr ↦ record {
    mark = mark_cr_lf;
    is_mark = inr (inl refl);
    whole = ap (λ l. l ++ 10 ∷ more) word_cr;
    ended = inl refl;
    first = tt;
  }
]

cut_last : (line : List ℕ) → line ≡ mark_word → IsCut line [] []
cut_last line is = record {
  mark = mark_word;
  is_mark = inr (inr (refl, refl));
  whole = is;
  ended = inl refl;
  first = tt;
}

cut_later : (line more front key : List ℕ) → HasNo 10 line → strip_carriage_return line ≢ mark_word
    → IsCut more front key → IsCut (line ++ 10 ∷ more) (line ++ 10 ∷ front) key
cut_later line more front key none other rest = record {
  mark = rest.mark;
  is_mark = rest.is_mark;
  whole = ap (λ l. line ++ 10 ∷ l) rest.whole ∙ simp append_assoc;
  ended = inr (ends_more line front rest.ended);
  first = no_mark_more line front none other rest.first;
}

after_line_says : (line : List ℕ) (parts : Option (List ℕ × List ℕ)) (issuer key : List ℕ)
    → with_issuer_line line parts ≡ Some (issuer, key)
    → (front : List ℕ) × (parts ≡ Some (front, key)) × (issuer ≡ line ++ front)
after_line_says line None issuer key is = cc is
after_line_says line (Some (front, rest)) issuer key is =
    let pair : (line ++ front, rest) ≡ (issuer, key) = cc is in
    (front, ap (λ (p : List ℕ × List ℕ). Some (front, p.1)) pair, sym (ap (λ (p : List ℕ × List ℕ). p.0) pair))

cut_says : (text issuer key : List ℕ) → cut text ≡ Some (issuer, key) → IsCut text issuer key
cut_says = by_lines (λ text. (issuer key : List ℕ) → cut text ≡ Some (issuer, key) → IsCut text issuer key)
    (λ line none issuer key is. elim (is_or_not line mark_word) [
      | inl word ↦ moved line ([], []) (issuer, key) (sym (cut_at_end line word) ∙ is) (cut_last line word)
      | inr other ↦ cc (cut_ends line none other, is)
    ])
    (λ line more none rest issuer key is. elim (is_or_not (strip_carriage_return line) mark_word) [
      | inl mark ↦
          moved (line ++ 10 ∷ more) ([], more) (issuer, key) (sym (cut_at_mark line more mark) ∙ is)
          (cut_here line more mark)
      | inr other ↦
          let says = after_line_says (line ++ 10 ∷ []) (cut more) issuer key
          (sym (cut_goes_on line more none other) ∙ is) in
          let front : issuer ≡ line ++ 10 ∷ says.0 = says.2 ∙ append_assoc line (10 ∷ []) says.0 in
          subst (λ l. IsCut (line ++ 10 ∷ more) l key) (sym front)
          (cut_later line more says.0 key none other (rest says.0 key says.1))
    ])

-- ---- and what is as it says is cut so

abbrev IsMarkBefore : List ℕ → List ℕ → Type 0
IsMarkBefore mark key = (mark ≡ mark_lf) ⊎ ((mark ≡ mark_cr_lf) ⊎ ((mark ≡ mark_word) × (key ≡ [])))

cut_at : (mark key : List ℕ) → IsMarkBefore mark key → cut (mark ++ key) ≡ Some ([], key)
cut_at mark key (inl lf) = ap (λ m. cut (m ++ key)) lf ∙ cut_at_lf key
cut_at mark key (inr (inl cr_lf)) = ap (λ m. cut (m ++ key)) cr_lf ∙ cut_at_cr_lf key
cut_at mark key (inr (inr word)) =
    ap (λ m. cut (m ++ key)) word.0 ∙ ap (λ k. cut (mark_word ++ k)) word.1
    ∙ ap (λ k. Some ([], k)) (sym word.1)

cut_after : (issuer mark key : List ℕ) → IsMarkBefore mark key → EndsInLf issuer → HasNoMark issuer
    → cut (issuer ++ mark ++ key) ≡ Some (issuer, key)
cut_after = by_lines
    (λ issuer. (mark key : List ℕ) → IsMarkBefore mark key → EndsInLf issuer → HasNoMark issuer
    → cut (issuer ++ mark ++ key) ≡ Some (issuer, key))
    (λ line none mark key is ended first.
    let empty : line ≡ [] = empty_line line none ended in
    ap (λ l. cut (l ++ mark ++ key)) empty ∙ cut_at mark key is ∙ ap (λ l. Some (l, key)) (sym empty))
    (λ line more none rest mark key is ended first.
    let parts = no_mark_parts line more none first in
    let whole : (line ++ 10 ∷ more) ++ mark ++ key ≡ line ++ 10 ∷ (more ++ mark ++ key) = simp append_assoc in
    ap cut whole ∙ cut_goes_on line (more ++ mark ++ key) none parts.0
    ∙ ap (with_issuer_line (line ++ 10 ∷ [])) (rest mark key is (ends_rest line more ended) parts.1)
    ∙ ap (λ l. Some (l, key)) (append_assoc line (10 ∷ []) more))

is_cut : (text issuer key : List ℕ) → IsCut text issuer key → cut text ≡ Some (issuer, key)
is_cut text issuer key is = ap cut is.whole ∙ cut_after issuer is.mark key is.is_mark is.ended is.first

pub cut_both_ways : (text issuer key : List ℕ) → (cut text ≡ Some (issuer, key)) ↔ IsCut text issuer key
cut_both_ways text issuer key = (cut_says text issuer key, is_cut text issuer key)

-- ---- a text of which no line is the mark

last_is_uncut : (line : List ℕ) → HasNo 10 line → (cut line ≡ None) ↔ HasNoMark line
last_is_uncut [] none = (λ is. tt, λ all. refl)
last_is_uncut (b ∷ line) none =
    let one = only_line b line none in
    let P : List (List ℕ) → Type 0 = AllByRecursion (λ l. l ≢ mark_word) in (
      λ is. subst P (sym one) (λ word. cc (cut_at_end (b ∷ line) word, is), tt),
      λ all. cut_ends (b ∷ line) none (subst P one all).0,
    )

after_line_none : (line : List ℕ) (parts : Option (List ℕ × List ℕ)) → with_issuer_line line parts ≡ None → parts ≡ None
after_line_none line None is = refl
after_line_none line (Some parts) is = cc is

pub uncut_without_mark : (text : List ℕ) → (cut text ≡ None) ↔ HasNoMark text
uncut_without_mark = by_lines (λ text. (cut text ≡ None) ↔ HasNoMark text) last_is_uncut
    (λ line more none rest. elim (is_or_not (strip_carriage_return line) mark_word) [
      | inl mark ↦ (
        λ is. cc (cut_at_mark line more mark, is),
        λ all. absurd ((no_mark_parts line more none all).0 mark),
      )
      | inr other ↦ (
        λ is. no_mark_more line more none other
            (rest.0 (after_line_none (line ++ 10 ∷ []) (cut more) (sym (cut_goes_on line more none other) ∙ is))),
        λ all. cut_goes_on line more none other
            ∙ ap (with_issuer_line (line ++ 10 ∷ [])) (rest.1 (no_mark_parts line more none all).1),
      )
    ])

-- ---- the parts

pub parts_where_marked : (text issuer key : List ℕ) → IsCut text issuer key
    → (issuer_text_part text ≡ Some issuer) × (key_part text ≡ key)
parts_where_marked text issuer key is =
    let same : cut text ≡ Some (issuer, key) = is_cut text issuer key is in
    (ap issuer_text_of same, ap (key_text_of_cut text) same)

pub parts_where_unmarked : (text : List ℕ) → HasNoMark text → (issuer_text_part text ≡ None) × (key_part text ≡ text)
parts_where_unmarked text all =
    let same : cut text ≡ None = (uncut_without_mark text).1 all in
    (ap issuer_text_of same, ap (key_text_of_cut text) same)
