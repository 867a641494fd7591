-- A text is cut at the first byte of a kind, once.
use Rattle.std.proofs.Common.{◌≡◌, ◌≢◌, ◌⊎◌, ℕ, ◌==◌, false, List, [], ◌∷◌, ◌++◌, ap, inl, inr}
use Rattle.std.proofs.lemmas.Bool.{cases_Bool, eqb-false, eqb-true, ne_eqb}
use Rattle.std.specs.List.{AllByRecursion}
use Rattle.picky_text.specs.Lines.{HasNo}
use Rattle.picky_text.proofs.ListLaws.{all_weaker}

-- the byte stands nowhere in the text, or the text is parted at the first
pub record IsParted (b : ℕ) (text : List ℕ) : Type 0 where
  pub front : List ℕ
  pub rest : List ℕ
  pub whole : text ≡ front ++ b ∷ rest
  pub none : HasNo b front

pub first_of : (b : ℕ) (text : List ℕ) → HasNo b text ⊎ IsParted b text
first_of b [] = inl tt
first_of b (c ∷ text) = elim (cases_Bool (c == b)) [
  | inl there ↦ inr (record { front = []; rest = text; whole = ap (λ d. d ∷ text) (eqb-true c b there); none = tt })
  | inr other ↦ elim (first_of b text) [
    | inl none ↦ inl (eqb-false c b other, none)
    | inr parted ↦ inr (record {
      front = c ∷ parted.front;
      rest = parted.rest;
      whole = ap (λ l. c ∷ l) parted.whole;
      none = (eqb-false c b other, parted.none);
    })
  ]
]

-- by the test for the byte
pub none_passes : (b : ℕ) (text : List ℕ) → HasNo b text → AllByRecursion (λ c. (c == b) ≡ false) text
none_passes b text none = all_weaker (λ c. c ≢ b) (λ c. (c == b) ≡ false) (λ c other. ne_eqb c b other) text none
