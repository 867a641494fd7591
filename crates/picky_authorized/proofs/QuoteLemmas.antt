-- The front of a text up to what ends it outside quotes.
use Rattle.std.proofs.Common.{◌≡◌, ◌⊎◌, ℕ, suc, ◌<◌, ◌≤◌, ◌==◌, ◌&&◌, Bool, true, false, not, List, [], ◌∷◌, ◌++◌, length}
use Rattle.std.proofs.Common.{get_or, take, drop}
use Rattle.std.proofs.Common.{refl, sym, ◌∙◌, ap, arith, inl, inr, subst}
use Rattle.std.proofs.lemmas.Bool.{and_parts, cases_Bool, eqb-true, or_cases}
use Rattle.std.proofs.lemmas.List.{length-append, take_at}
use Rattle.std.proofs.lemmas.Str.{IsCharBoundary-before_ascii, IsCharBoundary-end}
use Rattle.std.specs.List.{onto_first}
use Rattle.std.specs.Str.{IsCharBoundary}
use Rattle.picky_authorized.specs.declared.quotes.PartEnd.{PartEnd}
use Rattle.picky_authorized.specs.declared.quotes.PartEnd.TheVariants.{Blank, Comma}
use Rattle.picky_authorized.specs.Quotes.{ends_at, front_from, front_outside, parts_from, parts_outside, quoted_behind, rest_outside}

-- ---- the front and the rest

-- they are the text
pub front_and_rest : (ends : ℕ → Bool) (quoted : Bool) (before : ℕ) (text : List ℕ)
    → front_from ends quoted before text ++ drop (length (front_from ends quoted before text)) text ≡ text
front_and_rest ends quoted before [] = refl
front_and_rest ends quoted before (b ∷ bs) = elim (cases_Bool (ends b && not quoted)) [
  | inl stops ↦ rw stops refl
  | inr goes ↦ rw goes (ap (λ l. b ∷ l) (front_and_rest ends (quoted_behind quoted before b) b bs))
]

-- the front is what is taken
pub front_taken : (ends : ℕ → Bool) (text : List ℕ) (n : ℕ) → n ≡ length (front_outside ends text)
    → take n text ≡ front_outside ends text
unfolding front_outside
front_taken ends text n is =
    let front : List ℕ = front_from ends false 0 text in
    ap (take n) (sym (front_and_rest ends false 0 text)) ∙ take_at front (drop (length front) text) n (sym is)

-- and the rest what is left
pub rest_left : (ends : ℕ → Bool) (text : List ℕ) (n : ℕ) → n ≡ length (front_outside ends text)
    → drop n text ≡ rest_outside ends text
unfolding rest_outside
rest_left ends text n is = ap (λ k. drop k text) is

pub split_whole : (ends : ℕ → Bool) (text : List ℕ) → front_outside ends text ++ rest_outside ends text ≡ text
unfolding front_outside rest_outside
split_whole ends text = front_and_rest ends false 0 text

pub front_no_longer : (ends : ℕ → Bool) (text : List ℕ) → length (front_outside ends text) ≤ length text
front_no_longer ends text =
    omega (arith, ap length (split_whole ends text), length-append (front_outside ends text) (rest_outside ends text))

pub rest_no_longer : (ends : ℕ → Bool) (text : List ℕ) → length (rest_outside ends text) ≤ length text
rest_no_longer ends text =
    omega (arith, ap length (split_whole ends text), length-append (front_outside ends text) (rest_outside ends text))

-- the front ends with the text, or before a byte that ends it
pub front_stops : (ends : ℕ → Bool) (quoted : Bool) (before : ℕ) (text : List ℕ)
    → (length (front_from ends quoted before text) ≡ length text)
    ⊎ ((length (front_from ends quoted before text) < length text)
    × (ends (get_or text (length (front_from ends quoted before text)) 0) ≡ true))
front_stops ends quoted before [] = inl refl
front_stops ends quoted before (b ∷ bs) = elim (cases_Bool (ends b && not quoted)) [
  | inl stops ↦ rw stops (inr (omega arith, (and_parts (ends b) (not quoted) stops).0))
  | inr goes ↦ rw goes (elim (front_stops ends (quoted_behind quoted before b) b bs) [
    | inl all ↦ inl (ap suc all)
    | inr at ↦ inr (omega (arith, at.0), at.1)
  ])
]

-- so the rest is nothing, or begins with such a byte
pub rest_begins : (ends : ℕ → Bool) (quoted : Bool) (before : ℕ) (text : List ℕ) (b : ℕ) (more : List ℕ)
    → drop (length (front_from ends quoted before text)) text ≡ b ∷ more → ends b ≡ true
rest_begins ends quoted before [] b more is = cc is
rest_begins ends quoted before (c ∷ cs) b more is = elim (cases_Bool (ends c && not quoted)) [
  | inl stops ↦
      let here : c ∷ cs ≡ b ∷ more = rw stops at is in
      let same : c ≡ b = cc here in
      ap ends (sym same) ∙ (and_parts (ends c) (not quoted) stops).0
  | inr goes ↦ rest_begins ends (quoted_behind quoted before c) c cs b more (rw goes at is)
]

-- ---- where a text is cut

ends_ascii : (end : PartEnd) (b : ℕ) → ends_at end b ≡ true → b < 128
ends_ascii Blank b is = elim (or_cases (b == 32) (b == 9) is) [
  | inl space ↦ omega (arith, eqb-true b 32 space)
  | inr tab ↦ omega (arith, eqb-true b 9 tab)
]
ends_ascii Comma b is = omega (arith, eqb-true b 44 is)

pub front_ends_at_boundary : (end : PartEnd) (text : List ℕ) (n : ℕ) → n ≡ length (front_outside (ends_at end) text)
    → IsCharBoundary text n
unfolding front_outside
front_ends_at_boundary end text n is = elim (front_stops (ends_at end) false 0 text) [
  | inl all ↦ subst (IsCharBoundary text) (sym (is ∙ all)) (IsCharBoundary-end text)
  | inr at ↦
      subst (IsCharBoundary text) (sym is)
      (IsCharBoundary-before_ascii text (length (front_from (ends_at end) false 0 text)) at.0 (ends_ascii end _ at.1))
]

-- ---- the parts

-- those behind the byte that ends the first
abbrev pub more_parts : (ends : ℕ → Bool) → (rest : List ℕ) → List (List ℕ)
more_parts ends [] = []
more_parts ends (b ∷ more) = parts_from ends false 0 more

-- the front is the first part
parts_cut : (ends : ℕ → Bool) (quoted : Bool) (before : ℕ) (text : List ℕ) → parts_from ends quoted before text
    ≡ front_from ends quoted before text ∷ more_parts ends (drop (length (front_from ends quoted before text)) text)
parts_cut ends quoted before [] = refl
parts_cut ends quoted before (b ∷ bs) = elim (cases_Bool (ends b && not quoted)) [
  | inl stops ↦ rw stops refl
  | inr goes ↦ rw goes (ap (onto_first b) (parts_cut ends (quoted_behind quoted before b) b bs))
]

pub parts_first : (ends : ℕ → Bool) (text : List ℕ)
    → parts_outside ends text ≡ front_outside ends text ∷ more_parts ends (rest_outside ends text)
unfolding parts_outside front_outside rest_outside
parts_first ends text = parts_cut ends false 0 text
