-- Where a text is cut at its first mark, its parts are what stands before that and the parts of what follows.
use Rattle.std.proofs.Common.{◌≡◌, ◌≢◌, ◌<◌, ℕ, false, List, [], ◌∷◌, ◌++◌, length, Option, Some, None, refl, sym, ◌∙◌, ap}
use Rattle.std.proofs.Common.{ap₂, arith, inl, inr, map, subst}
use Rattle.std.proofs.lemmas.Bool.{false_from_ne_true}
use Rattle.std.proofs.lemmas.List.{append_assoc, append-nil, length-append, map-append}
use Rattle.std.specs.Str.Lines.{strip_carriage_return}
use Rattle.picky_text.specs.Lines.{HasNo}
use Rattle.picky_issuing.specs.Parts.{mark_word, is_mark, with_issuer_line, cut, issuer_text_of, key_text_of_cut, issuer_text_part, key_part}
use Rattle.picky_issuing.specs.Parts.{IsCut, HasNoMark}
use Rattle.picky_issuing.proofs.PartsLemmas.{by_lines, lines_at_lf, one_line_left, is_or_not, stripped_is_mark}
use Rattle.picky_issuing.proofs.PartsLemmas.{marked_line, marked_end, cut_at_mark, cut_at_end, cut_goes_on, cut_ends}
use Rattle.picky_issuing.proofs.PartsLaws.{parts_where_marked, parts_where_unmarked}
use Rattle.picky_inventory.specs.Parted.{onto_part, parts_of_lines, text_parts}

parts_at_mark : (line more : List ℕ) → strip_carriage_return line ≡ mark_word
    → text_parts (line ++ 10 ∷ more) ≡ [] ∷ text_parts more
parts_at_mark line more is = elim (stripped_is_mark line is) [
  | inl word ↦ ap (λ l. text_parts (l ++ 10 ∷ more)) word
  | inr word_cr ↦ ap (λ l. text_parts (l ++ 10 ∷ more)) word_cr
]

parts_go_on : (line more : List ℕ) → HasNo 10 line → strip_carriage_return line ≢ mark_word
    → text_parts (line ++ 10 ∷ more) ≡ onto_part (line ++ 10 ∷ []) (text_parts more)
parts_go_on line more none other =
    let not : is_mark (line ++ 10 ∷ []) ≡ false = false_from_ne_true _ (λ is. other (marked_line line is)) in
    ap parts_of_lines (lines_at_lf line more none) ∙ rw not refl

parts_at_end : (line : List ℕ) → line ≡ mark_word → text_parts line ≡ [] ∷ [] ∷ []
parts_at_end line is = ap text_parts is

parts_end : (line : List ℕ) → HasNo 10 line → line ≢ mark_word → text_parts line ≡ line ∷ []
parts_end [] none other = refl
parts_end (b ∷ line) none other =
    let not : is_mark (b ∷ line) ≡ false = false_from_ne_true _ (λ is. other (marked_end (b ∷ line) none is)) in
    ap parts_of_lines (one_line_left b line none) ∙ rw not (ap (λ l. l ∷ []) (append-nil (b ∷ line)))

-- the parts of a text, by its cut
abbrev pub AreParts : (text : List ℕ) → Option (List ℕ × List ℕ) → Type 0
AreParts text None = text_parts text ≡ text ∷ []
AreParts text (Some cut) = (text_parts text ≡ cut.0 ∷ text_parts cut.1) × (length cut.1 < length text)

parts_more : (line more : List ℕ) → text_parts (line ++ 10 ∷ more) ≡ onto_part (line ++ 10 ∷ []) (text_parts more)
    → (found : Option (List ℕ × List ℕ)) → AreParts more found
    → AreParts (line ++ 10 ∷ more) (with_issuer_line (line ++ 10 ∷ []) found)
parts_more line more on None are =
    on ∙ ap (onto_part (line ++ 10 ∷ [])) are ∙ ap (λ l. l ∷ []) (append_assoc line (10 ∷ []) more)
parts_more line more on (Some found) are =
    (on ∙ ap (onto_part (line ++ 10 ∷ [])) are.0, omega (arith, are.1, length-append line (10 ∷ more)))

pub parts_by_cut : (text : List ℕ) → AreParts text (cut text)
parts_by_cut = by_lines (λ text. AreParts text (cut text))
    (λ line none. elim (is_or_not line mark_word) [
      | inl word ↦
          subst (AreParts line) (sym (cut_at_end line word)) (parts_at_end line word, omega (arith, ap length word))
      | inr other ↦ subst (AreParts line) (sym (cut_ends line none other)) (parts_end line none other)
    ])
    (λ line more none rest. elim (is_or_not (strip_carriage_return line) mark_word) [
      | inl mark ↦
          subst (AreParts (line ++ 10 ∷ more)) (sym (cut_at_mark line more mark))
          (parts_at_mark line more mark, omega (arith, length-append line (10 ∷ more)))
      | inr other ↦
          subst (AreParts (line ++ 10 ∷ more)) (sym (cut_goes_on line more none other))
          (parts_more line more (parts_go_on line more none other) (cut more) rest)
    ])

-- ---- by the two parts of picky_issuing

by_found : (text part key : List ℕ) (found : Option (List ℕ × List ℕ)) → AreParts text found
    → Some part ≡ issuer_text_of found → key ≡ key_text_of_cut text found
    → (text_parts text ≡ part ∷ text_parts key) × (length key < length text)
by_found text part key None are is rest = cc is
by_found text part key (Some found) are is rest =
    let first : found.0 ≡ part = cc is in (
      are.0 ∙ ap₂ (λ a b. a ∷ text_parts b) first (sym rest),
      omega (arith, are.1, ap length rest),
    )

-- a text that is cut has its first part and those of what follows, which is shorter
pub parts_at : (text part key : List ℕ) → Some part ≡ issuer_text_part text → key ≡ key_part text
    → (text_parts text ≡ part ∷ text_parts key) × (length key < length text)
parts_at text part key = by_found text part key (cut text) (parts_by_cut text)

by_none : (text : List ℕ) (found : Option (List ℕ × List ℕ)) → AreParts text found → None ≡ issuer_text_of found
    → text_parts text ≡ text ∷ []
by_none text None are is = are
by_none text (Some found) are is = cc is

-- one that isn't is its only part
pub part_alone : (text : List ℕ) → None ≡ issuer_text_part text → text_parts text ≡ text ∷ []
part_alone text = by_none text (cut text) (parts_by_cut text)

-- ---- the parts found so far, and those of what is left

pub one_more_part : {A : Type 0} → (f : A → List ℕ) (found more : List A) (part : A) (rest key text : List ℕ)
    → more ≡ found ++ part ∷ [] → map f found ++ text_parts rest ≡ text_parts text
    → text_parts rest ≡ f part ∷ text_parts key → map f more ++ text_parts key ≡ text_parts text
one_more_part f found more part rest key text is before at =
    ap (λ l. map f l ++ text_parts key) is ∙ ap (λ l. l ++ text_parts key) (map-append f found (part ∷ []))
    ∙ append_assoc (map f found) (f part ∷ []) (text_parts key) ∙ ap (λ l. map f found ++ l) (sym at) ∙ before

pub last_part : {A : Type 0} → (f : A → List ℕ) (found more : List A) (part : A) (text : List ℕ)
    → more ≡ found ++ part ∷ [] → map f found ++ text_parts (f part) ≡ text_parts text
    → text_parts (f part) ≡ f part ∷ [] → map f more ≡ text_parts text
last_part f found more part text is before at =
    ap (map f) is ∙ map-append f found (part ∷ []) ∙ ap (λ l. map f found ++ l) (sym at) ∙ before

-- ---- by what a cut is

pub parts_where_cut : (text front rest : List ℕ) → IsCut text front rest → text_parts text ≡ front ∷ text_parts rest
parts_where_cut text front rest is =
    let both = parts_where_marked text front rest is in
    (parts_at text front rest (sym both.0) (sym both.1)).0

pub parts_where_uncut : (text : List ℕ) → HasNoMark text → text_parts text ≡ text ∷ []
parts_where_uncut text none = part_alone text (sym (parts_where_unmarked text none).0)
