-- The names of a line's `principals`.
use Rattle.std.proofs.Common.{◌≡◌, ◌≢◌, ℕ, ◌==◌, ◌&&◌, ◌||◌, Bool, true, false, not, List, [], ◌∷◌, ◌++◌, length, refl, sym}
use Rattle.std.proofs.Common.{◌∙◌, ap, inl, inr}
use Rattle.std.proofs.lemmas.Bool.{cases_Bool, ne_eqb}
use Rattle.std.proofs.lemmas.List.Elements.{All-from_recursion}
use Rattle.std.proofs.lemmas.List.Splits.{slice_split_at, slice_split_none}
use Rattle.std.specs.List.{AllByRecursion, filter, list_any, slice_split}
use Rattle.picky_text.specs.Lines.{HasNo}
use Rattle.picky_text.proofs.ListLaws.{all_weaker}
use Rattle.picky_policy.specs.Rules.{names_in}

-- a name is one that isn't empty
abbrev pub is_some_name : (p : List ℕ → Bool) → (name : List ℕ) → Bool
is_some_name p name = not (length name == 0) && p name

any_first : (p : List ℕ → Bool) (name : List ℕ) (names : List (List ℕ))
    → list_any p (filter (λ n. not (length n == 0)) (name ∷ names))
    ≡ (is_some_name p name || list_any p (filter (λ n. not (length n == 0)) names))
any_first p name names = elim (cases_Bool (not (length name == 0))) [
  | inl some ↦ rw some refl
  | inr none ↦ rw none refl
]

no_comma : (name : List ℕ) → HasNo 44 name → AllByRecursion (λ b. (b == 44) ≡ false) name
no_comma name none = all_weaker (λ b. b ≢ 44) (λ b. (b == 44) ≡ false) (λ b other. ne_eqb b 44 other) name none

-- the first name, and those behind its comma
pub names_cut : (p : List ℕ → Bool) (value name after : List ℕ) → value ≡ name ++ 44 ∷ after → HasNo 44 name
    → list_any p (names_in value) ≡ (is_some_name p name || list_any p (names_in after))
names_cut p value name after is none =
    let comma = λ (b : ℕ). b == 44 in
    ap (λ v. list_any p (names_in v)) is
    ∙ ap (λ names. list_any p (filter (λ n. not (length n == 0)) names))
    (slice_split_at comma name 44 after (All-from_recursion _ name (no_comma name none)) refl)
    ∙ any_first p name (slice_split comma after)

-- a value without a comma is one name
pub names_end : (p : List ℕ → Bool) (value : List ℕ) → HasNo 44 value
    → list_any p (names_in value) ≡ (is_some_name p value || false)
names_end p value none =
    let comma = λ (b : ℕ). b == 44 in
    ap (λ names. list_any p (filter (λ n. not (length n == 0)) names))
    (slice_split_none comma value (All-from_recursion _ value (no_comma value none)))
    ∙ any_first p value []

-- ---- names found so far

-- a name that is none of them
pub names_go_on : (p : List ℕ → Bool) (rest name after value : List ℕ)
    → list_any p (names_in rest) ≡ list_any p (names_in value) → rest ≡ name ++ 44 ∷ after → HasNo 44 name
    → is_some_name p name ≡ false → list_any p (names_in after) ≡ list_any p (names_in value)
names_go_on p rest name after value before is none other =
    let cut : list_any p (names_in rest) ≡ list_any p (names_in after) = rw other at (names_cut p rest name after is none) in
    sym cut ∙ before

-- one that is
pub names_stop : (p : List ℕ → Bool) (rest name after value : List ℕ)
    → list_any p (names_in rest) ≡ list_any p (names_in value) → rest ≡ name ++ 44 ∷ after → HasNo 44 name
    → is_some_name p name ≡ true → true ≡ list_any p (names_in value)
names_stop p rest name after value before is none found =
    let cut : list_any p (names_in rest) ≡ true = rw found at (names_cut p rest name after is none) in
    sym cut ∙ before

-- the last
pub names_last : (p : List ℕ → Bool) (rest value : List ℕ) (last : Bool)
    → list_any p (names_in rest) ≡ list_any p (names_in value) → HasNo 44 rest → last ≡ is_some_name p rest
    → last ≡ list_any p (names_in value)
names_last p rest value last before none is = is ∙ sym (or_false (is_some_name p rest)) ∙ sym (names_end p rest none) ∙ before
  where
    or_false : (b : Bool) → (b || false) ≡ b
    or_false true = refl
    or_false false = refl
