-- Two inventories of texts, and the pieces of one.
use Rattle.std.proofs.Common.{◌≡◌, ◌≢◌, ◌↔◌, ◌+◌, ◌&&◌, ◌∙◌, ℕ, true, List, [], ◌∷◌, ◌++◌, length, Option, Some, None}
use Rattle.std.proofs.Common.{Ok, IsUtf8, refl, sym, ap, ap₂, arith, subst, inl, inr}
use Rattle.std.proofs.lemmas.Bool.{and_parts, cases_Bool}
use Rattle.std.proofs.lemmas.List.{append_assoc, length-append}
use Rattle.std.proofs.lemmas.Str.{IsUtf8-append, IsUtf8-from_is_utf8, IsUtf8-nil, is_utf8-from_IsUtf8}
use Rattle.std.specs.List.{AllByRecursion, concat}
use Rattle.std.specs.Str.{is_utf8}
use Rattle.picky_wire_base.specs.Outcome.{and_then}
use Rattle.picky_wire_base.specs.carried.Outcome.{and_then_ok}
use Rattle.picky_text.proofs.ListLaws.{all_weaker}
use Rattle.picky_issuing.specs.Parts.{lines_with_ends}
use Rattle.picky_issuing.proofs.PartsLemmas.{lines_at_lf, lines_joined}
use Rattle.picky_inventory.specs.BadLine.{or_else}
use Rattle.picky_inventory.specs.ItemLine.{cut_at, is_key_end, passes}
use Rattle.picky_inventory.specs.Merging.{or_empty}
use Rattle.picky_inventory.specs.OrderedText.{HasWholeLines, IsWholeLine, first_bad, follows, last_before, merged, ordered_text}
use Rattle.picky_inventory.proofs.TextLaws.{merged_texts, no_bad}
use Rattle.picky_inventory_texts.specs.Listed.{IsListed, IsListedLine, Listed, is_listed_line, is_listed_word, listed_line}
use Rattle.picky_inventory_texts.specs.Merging.{IsListing, bad_from, bad_line, merging, unless_bad}
use Rattle.picky_inventory_texts.specs.Pieces.{all_checked, checked, line_given, unless_bad as unless_bad_piece}
use Rattle.picky_inventory_texts.proofs.GoodLineLemmas.{first_bad_behind}
use Rattle.picky_inventory_texts.proofs.InventoryLemmas.{listed_are_inventory}
use Rattle.picky_inventory_texts.proofs.LineLemmas.{listed_is_line, listed_line_is}

-- ---- an inventory is a text without a bad line

good_text : (n : ℕ) (text : List ℕ) → bad_from n text ≡ None → IsListing text
good_text n text is =
    let good = (no_bad is_listed_line n (lines_with_ends text)).0 is in
    record {
      lines =
          all_weaker (λ line. is_listed_line line ≡ true) IsListedLine (λ line. (listed_line_is line).0) (lines_with_ends text)
          good.0;
      sorted = good.1;
    }

text_is_good : (n : ℕ) (text : List ℕ) → IsListing text → bad_from n text ≡ None
text_is_good n text is =
    (no_bad is_listed_line n (lines_with_ends text)).1 (
      all_weaker IsListedLine (λ line. is_listed_line line ≡ true) (λ line. (listed_line_is line).1) (lines_with_ends text) is.lines,
      is.sorted,
    )

none_of_both : (a b : Option ℕ) → or_else a b ≡ None → (a ≡ None) × (b ≡ None)
none_of_both None b is = (refl, is)
none_of_both (Some k) b is = cc is

pub no_bad_line : (left right : List ℕ) → (bad_line left right ≡ None) ↔ (IsListing left × IsListing right)
no_bad_line left right =
    let next : ℕ = 1 + length (lines_with_ends left) in (
      λ is.
          let both = none_of_both (bad_from 1 left) (bad_from next right) is in
          (good_text 1 left both.0, good_text next right both.1),
      λ both. ap (λ k. or_else k (bad_from next right)) (text_is_good 1 left both.0) ∙ text_is_good next right both.1,
    )

-- ---- lines that pass are UTF-8 and whole

passed_is_text : (line : List ℕ) → is_listed_line line ≡ true → IsUtf8 line
unfolding is_listed_line
passed_is_text line is =
    IsUtf8-from_is_utf8 line (and_parts (is_utf8 line) (passes is_listed_word is_key_end (cut_at 32 line)) is).0

passed_is_whole : (line : List ℕ) → is_listed_line line ≡ true → IsWholeLine line
passed_is_whole line is =
    let found = (listed_line_is line).0 is in
    subst IsWholeLine (sym found.2) (listed_is_line found.0 found.1)

texts_joined : (lines : List (List ℕ)) → AllByRecursion IsUtf8 lines → IsUtf8 (concat lines)
texts_joined [] all = IsUtf8-nil
texts_joined (line ∷ lines) all = IsUtf8-append line (concat lines) all.0 (texts_joined lines all.1)

-- each line passes where none is bad
none_bad : (n : ℕ) (before : Option (List ℕ)) (lines : List (List ℕ)) → first_bad is_listed_line n before lines ≡ None
    → AllByRecursion (λ line. is_listed_line line ≡ true) lines
none_bad n before [] is = tt
none_bad n before (line ∷ lines) is = elim (cases_Bool (is_listed_line line && follows before line)) [
  | inl good ↦ (
    (and_parts (is_listed_line line) (follows before line) good).0,
    none_bad (n + 1) (Some line) lines (rw good at is),
  )
  | inr bad ↦ cc (rw bad at is)
]

lines_are_text : (text : List ℕ) → AllByRecursion (λ line. is_listed_line line ≡ true) (lines_with_ends text) → is_utf8 text ≡ true
lines_are_text text all =
    is_utf8-from_IsUtf8 text
    (subst IsUtf8 (lines_joined text)
    (texts_joined (lines_with_ends text)
    (all_weaker (λ line. is_listed_line line ≡ true) IsUtf8 passed_is_text (lines_with_ends text) all)))

listing_is_text : (text : List ℕ) → IsListing text → is_utf8 text ≡ true
listing_is_text text is =
    lines_are_text text
    (all_weaker IsListedLine (λ line. is_listed_line line ≡ true) (λ line. (listed_line_is line).1) (lines_with_ends text) is.lines)

-- ---- two inventories merged

merged_to : (left right : List ℕ) → IsListing left → IsListing right → merging left right ≡ Ok (merged left right)
merged_to left right is_left is_right =
    rw (listing_is_text left is_left, listing_is_text right is_right)
    (ap (λ bad. unless_bad bad (merged left right)) ((no_bad_line left right).1 (is_left, is_right)))

pub inventories_merged : (xs ys : List Listed) → AllByRecursion IsListed xs → AllByRecursion IsListed ys
    → merging (ordered_text listed_line xs) (ordered_text listed_line ys) ≡ Ok (ordered_text listed_line (xs ++ ys))
inventories_merged xs ys left right =
    merged_to (ordered_text listed_line xs) (ordered_text listed_line ys) (listed_are_inventory xs left) (listed_are_inventory ys right)
    ∙ ap Ok (merged_texts listed_line xs ys
    (all_weaker IsListed (λ x. IsWholeLine (listed_line x)) listed_is_line xs left)
    (all_weaker IsListed (λ x. IsWholeLine (listed_line x)) listed_is_line ys right))

-- ---- the lines of pieces

whole_then : (lines : List (List ℕ)) (rest : List ℕ) → AllByRecursion IsWholeLine lines
    → lines_with_ends (concat lines ++ rest) ≡ lines ++ lines_with_ends rest
whole_then [] rest all = refl
whole_then (line ∷ lines) rest all =
    let front : List ℕ = all.0.front in
    let more : List ℕ = concat lines ++ rest in
    ap lines_with_ends (append_assoc line (concat lines) rest) ∙ ap (λ l. lines_with_ends (l ++ more)) all.0.is
    ∙ ap lines_with_ends (append_assoc front (10 ∷ []) more) ∙ lines_at_lf front more all.0.none
    ∙ ap₂ (λ a b. a ∷ b) (sym all.0.is) (whole_then lines rest all.1)

lines_of_both : (piece rest : List ℕ) → HasWholeLines piece
    → lines_with_ends (piece ++ rest) ≡ lines_with_ends piece ++ lines_with_ends rest
lines_of_both piece rest whole =
    ap (λ p. lines_with_ends (p ++ rest)) (sym (lines_joined piece)) ∙ whole_then (lines_with_ends piece) rest whole

-- ---- a line that is given again

abbrev IsGiven : Option (List ℕ) → Type 0
IsGiven None = Unit {0}
IsGiven (Some line) = line ≢ []

given_is : (before : List ℕ) → IsGiven (line_given before)
given_is [] = tt
given_is (b ∷ before) = λ same. cc same

whole_is_given : (line : List ℕ) → IsWholeLine line → line ≢ []
whole_is_given line is none =
    let empty : is.front ++ 10 ∷ [] ≡ [] = sym is.is ∙ none in
    absurd (omega (arith, ap length empty, length-append is.front (10 ∷ [])))

last_is_given : (before : Option (List ℕ)) (lines : List (List ℕ)) → IsGiven before → AllByRecursion IsWholeLine lines
    → IsGiven (last_before before lines)
last_is_given before [] given whole = given
last_is_given before (line ∷ lines) given whole = last_is_given (Some line) lines (whole_is_given line whole.0) whole.1

given_again : (before : Option (List ℕ)) → IsGiven before → line_given (or_empty before) ≡ before
given_again None given = refl
given_again (Some []) given = absurd (given refl)
given_again (Some (b ∷ line)) given = refl

-- ---- no bad line in pieces one after another

renumbered : (n m : ℕ) (before : Option (List ℕ)) (lines : List (List ℕ)) → first_bad is_listed_line n before lines ≡ None
    → first_bad is_listed_line m before lines ≡ None
renumbered n m before [] is = refl
renumbered n m before (line ∷ lines) is = elim (cases_Bool (is_listed_line line && follows before line)) [
  | inl good ↦ rw good (renumbered (n + 1) (m + 1) (Some line) lines (rw good at is))
  | inr bad ↦ cc (rw bad at is)
]

front_is_good : (n : ℕ) (before : Option (List ℕ)) (front rest : List (List ℕ))
    → first_bad is_listed_line n before (front ++ rest) ≡ None → first_bad is_listed_line n before front ≡ None
front_is_good n before [] rest is = refl
front_is_good n before (line ∷ front) rest is = elim (cases_Bool (is_listed_line line && follows before line)) [
  | inl good ↦ rw good (front_is_good (n + 1) (Some line) front rest (rw good at is))
  | inr bad ↦ cc (rw bad at is)
]

-- a piece that is in order
record IsInOrder (piece before last : List ℕ) : Type 0 where
  good : first_bad is_listed_line 1 (line_given before) (lines_with_ends piece) ≡ None
  whole : HasWholeLines piece
  last_is : line_given last ≡ last_before (line_given before) (lines_with_ends piece)

unbad : (bad : Option ℕ) (last found : List ℕ) → unless_bad_piece bad last ≡ Ok found → (bad ≡ None) × (last ≡ found)
unbad None last found is = (refl, cc is)
unbad (Some k) last found is = cc is

in_order : (piece before last : List ℕ) → checked piece before ≡ Ok last → IsInOrder piece before last
in_order piece before last is =
    let lines : List (List ℕ) = lines_with_ends piece in
    elim (cases_Bool (is_utf8 piece)) [
      | inl utf8 ↦
          let found = unbad (first_bad is_listed_line 1 (line_given before) lines)
          (or_empty (last_before (line_given before) lines)) last (rw utf8 at is) in
          let whole : HasWholeLines piece =
          all_weaker (λ line. is_listed_line line ≡ true) IsWholeLine passed_is_whole lines
          (none_bad 1 (line_given before) lines found.0) in
          record {
            good = found.0;
            whole = whole;
            last_is =
                ap line_given (sym found.1)
                ∙ given_again (last_before (line_given before) lines) (last_is_given (line_given before) lines (given_is before) whole);
          }
      | inr none ↦ cc (rw none at is)
    ]

pieces_in_order : (n : ℕ) (pieces : List (List ℕ)) (before last : List ℕ) → all_checked pieces before ≡ Ok last
    → (first_bad is_listed_line n (line_given before) (lines_with_ends (concat pieces)) ≡ None)
    × AllByRecursion HasWholeLines pieces
pieces_in_order n [] before last is = (refl, tt)
pieces_in_order n (piece ∷ pieces) before last is =
    let step = and_then_ok (checked piece before) (λ last. all_checked pieces last) last is in
    let here = in_order piece before step.0 step.1 in
    let lines : List (List ℕ) = lines_with_ends piece in
    let rest : List ℕ = concat pieces in
    let more = pieces_in_order (n + length lines) pieces step.0 last step.2 in (
      ap (first_bad is_listed_line n (line_given before)) (lines_of_both piece rest here.whole)
          ∙ first_bad_behind is_listed_line n (line_given before) lines (lines_with_ends rest)
          (renumbered 1 n (line_given before) lines here.good)
          ∙ ap (λ b. first_bad is_listed_line (n + length lines) b (lines_with_ends rest)) (sym here.last_is) ∙ more.0,
      (here.whole, more.1),
    )

checks_to : (piece before : List ℕ) → first_bad is_listed_line 1 (line_given before) (lines_with_ends piece) ≡ None
    → checked piece before ≡ Ok (or_empty (last_before (line_given before) (lines_with_ends piece)))
checks_to piece before good =
    let utf8 = lines_are_text piece (none_bad 1 (line_given before) (lines_with_ends piece) good) in
    rw utf8
    (ap (λ bad. unless_bad_piece bad (or_empty (last_before (line_given before) (lines_with_ends piece)))) good)

order_of_pieces : (n : ℕ) (pieces : List (List ℕ)) (before : List ℕ) → AllByRecursion HasWholeLines pieces
    → first_bad is_listed_line n (line_given before) (lines_with_ends (concat pieces)) ≡ None
    → (last : List ℕ) × (all_checked pieces before ≡ Ok last)
order_of_pieces n [] before whole is = (before, refl)
order_of_pieces n (piece ∷ pieces) before whole is =
    let lines : List (List ℕ) = lines_with_ends piece in
    let rest : List ℕ = concat pieces in
    let last : List ℕ = or_empty (last_before (line_given before) lines) in
    let both : first_bad is_listed_line n (line_given before) (lines ++ lines_with_ends rest) ≡ None =
    ap (first_bad is_listed_line n (line_given before)) (sym (lines_of_both piece rest whole.0)) ∙ is in
    let front = front_is_good n (line_given before) lines (lines_with_ends rest) both in
    let again : line_given last ≡ last_before (line_given before) lines =
    given_again (last_before (line_given before) lines) (last_is_given (line_given before) lines (given_is before) whole.0) in
    let behind : first_bad is_listed_line (n + length lines) (line_given last) (lines_with_ends rest) ≡ None =
    ap (λ b. first_bad is_listed_line (n + length lines) b (lines_with_ends rest)) again
    ∙ sym (first_bad_behind is_listed_line n (line_given before) lines (lines_with_ends rest) front) ∙ both in
    let more = order_of_pieces (n + length lines) pieces last whole.1 behind in (
      more.0,
      ap (λ s. and_then s (λ last. all_checked pieces last))
          (checks_to piece before (renumbered n 1 (line_given before) lines front)) ∙ more.1,
    )

pub pieces_are_inventory : (pieces : List (List ℕ)) → AllByRecursion HasWholeLines pieces
    → ((last : List ℕ) × (all_checked pieces [] ≡ Ok last)) ↔ IsListing (concat pieces)
pieces_are_inventory pieces whole = (
  λ found. good_text 1 (concat pieces) (pieces_in_order 1 pieces [] found.0 found.1).0,
  λ is. order_of_pieces 1 pieces [] whole (text_is_good 1 (concat pieces) is),
)

pub pieces_are_cut : (pieces : List (List ℕ)) (last : List ℕ) → all_checked pieces [] ≡ Ok last
    → AllByRecursion HasWholeLines pieces
pieces_are_cut pieces last is = (pieces_in_order 1 pieces [] last is).1
