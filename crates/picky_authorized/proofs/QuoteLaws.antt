-- The longest front in which each byte of a sort stands between quotes.
use Rattle.std.proofs.Common.{◌≡◌, ℕ, ◌&&◌, Bool, true, false, not, List, [], ◌∷◌, ◌++◌, length, drop, ◌↔◌, refl, sym, ◌∙◌, ap}
use Rattle.std.proofs.Common.{inl, inr, subst}
use Rattle.std.proofs.lemmas.Bool.{and_cases, and_from, and_left, and_parts, and_right, cases_Bool, not-false, not-true}
use Rattle.std.proofs.lemmas.Bool.{not_from_false, not_from_true}
use Rattle.picky_authorized.specs.Quotes.{IsFront, front_from, front_outside, quoted_after, quoted_behind, rest_outside}
use Rattle.picky_authorized.proofs.QuoteLemmas.{front_and_rest, rest_begins}

-- ---- the same from within a line

-- behind a byte, inside quotes or not
record IsFrontFrom (ends : ℕ → Bool) (quoted : Bool) (last : ℕ) (text front rest : List ℕ) : Type 0 where
  whole : text ≡ front ++ rest
  between : (before after : List ℕ) (b : ℕ) → front ≡ before ++ b ∷ after → ends b ≡ true
      → quoted_after quoted last before ≡ true
  longest : (b : ℕ) (after : List ℕ) → rest ≡ b ∷ after → (ends b ≡ true) × (quoted_after quoted last front ≡ false)

-- what is scanned is such a front
scanned_between : (ends : ℕ → Bool) (quoted : Bool) (last : ℕ) (text before after : List ℕ) (b : ℕ)
    → front_from ends quoted last text ≡ before ++ b ∷ after → ends b ≡ true → quoted_after quoted last before ≡ true
scanned_between ends quoted last [] [] after b is stops = cc is
scanned_between ends quoted last [] (c ∷ before) after b is stops = cc is
scanned_between ends quoted last (d ∷ text) [] after b is stops = elim (cases_Bool (ends d && not quoted)) [
  | inl at ↦ cc (rw at at is)
  | inr goes ↦
      let here : d ∷ front_from ends (quoted_behind quoted last d) d text ≡ b ∷ after = rw goes at is in
      let same : d ≡ b = cc here in
      let ends_here : ends d ≡ true = ap ends same ∙ stops in
      elim (and_cases (ends d) (not quoted) goes) [
        | inl stays ↦ absurd (cc (stays, ends_here))
        | inr within ↦ not-false quoted within
      ]
]
scanned_between ends quoted last (d ∷ text) (c ∷ before) after b is stops = elim (cases_Bool (ends d && not quoted)) [
  | inl at ↦ cc (rw at at is)
  | inr goes ↦
      let here : d ∷ front_from ends (quoted_behind quoted last d) d text ≡ c ∷ before ++ b ∷ after = rw goes at is in
      let same : d ≡ c = cc here in
      let more : front_from ends (quoted_behind quoted last d) d text ≡ before ++ b ∷ after = cc here in
      ap (λ x. quoted_after (quoted_behind quoted last x) x before) (sym same)
      ∙ scanned_between ends (quoted_behind quoted last d) d text before after b more stops
]

scanned_longest : (ends : ℕ → Bool) (quoted : Bool) (last : ℕ) (text : List ℕ) (b : ℕ) (after : List ℕ)
    → drop (length (front_from ends quoted last text)) text ≡ b ∷ after
    → quoted_after quoted last (front_from ends quoted last text) ≡ false
scanned_longest ends quoted last [] b after is = cc is
scanned_longest ends quoted last (d ∷ text) b after is = elim (cases_Bool (ends d && not quoted)) [
  | inl at ↦ rw at (not-true quoted (and_parts (ends d) (not quoted) at).1)
  | inr goes ↦ rw goes (scanned_longest ends (quoted_behind quoted last d) d text b after (rw goes at is))
]

-- and there is no other
nil_front : (front rest : List ℕ) → [] ≡ front ++ rest → (front ≡ []) × (rest ≡ [])
nil_front [] rest is = (refl, sym is)
nil_front (b ∷ front) rest is = cc is

one_front : (ends : ℕ → Bool) (quoted : Bool) (last : ℕ) (text front rest : List ℕ)
    → IsFrontFrom ends quoted last text front rest
    → (front_from ends quoted last text ≡ front) × (drop (length (front_from ends quoted last text)) text ≡ rest)
one_front ends quoted last [] front rest is =
    let none = nil_front front rest is.whole in
    (sym none.0, sym none.1)
one_front ends quoted last (d ∷ text) [] rest is =
    let here = is.longest d text (sym is.whole) in
    let at : (ends d && not quoted) ≡ true = and_from (ends d) (not quoted) here.0 (not_from_false quoted here.1) in
    rw at (refl, is.whole)
one_front ends quoted last (d ∷ text) (c ∷ front) rest is =
    let same : d ≡ c = cc is.whole in
    let more : text ≡ front ++ rest = cc is.whole in
    let goes : (ends d && not quoted) ≡ false = elim (cases_Bool (ends d)) [
      | inl stops ↦
          and_right (ends d) (not quoted) (not_from_true quoted (is.between [] front c refl (ap ends (sym same) ∙ stops)))
      | inr stays ↦ and_left (ends d) (not quoted) stays
    ] in
    let step = one_front ends (quoted_behind quoted last d) d text front rest (record {
      whole = more;
      between = λ before after b at stops.
          ap (λ x. quoted_after (quoted_behind quoted last x) x before) same
          ∙ is.between (c ∷ before) after b (ap (λ l. c ∷ l) at) stops;
      longest = λ b after at.
          let found = is.longest b after at in
          (found.0, ap (λ x. quoted_after (quoted_behind quoted last x) x front) same ∙ found.1);
    }) in
    rw goes (ap (λ l. d ∷ l) step.0 ∙ ap (λ x. x ∷ front) same, step.1)

-- ---- from the beginning

pub front_is_longest : (ends : ℕ → Bool) (text front rest : List ℕ)
    → IsFront ends text front rest ↔ ((front_outside ends text ≡ front) × (rest_outside ends text ≡ rest))
unfolding front_outside rest_outside
front_is_longest ends text front rest = (
  λ is. one_front ends false 0 text front rest
      (record { whole = is.whole; between = is.between; longest = is.longest }),
  λ same.
      let scanned : IsFront ends text (front_outside ends text) (rest_outside ends text) = record {
        whole = sym (front_and_rest ends false 0 text);
        between = scanned_between ends false 0 text;
        longest = λ b after is. (rest_begins ends false 0 text b after is, scanned_longest ends false 0 text b after is);
      } in
      subst (λ r. IsFront ends text front r) same.1
      (subst (λ f. IsFront ends text f (rest_outside ends text)) same.0 scanned),
)
