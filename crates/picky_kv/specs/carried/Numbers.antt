-- A number is read back from its decimal text.
use Rattle.std.proofs.Common.{◌≡◌, ℕ, ◌^◌, ◌<◌, ◌≤◌, ◌==◌, true, false, List, [], ◌∷◌, refl, sym, ◌∙◌, ap}
use Rattle.std.proofs.Common.{arith, subst, inl, inr}
use Rattle.std.specs.Prelude.{nat_lt, Some}
use Rattle.std.specs.Char.{is_digit}
use Rattle.std.specs.Fmt.{decimal}
use Rattle.std.specs.List.{list_all}
use Rattle.std.specs.Str.Parse.{AllDigits, IsNumeral, digits_value, without_leading_plus}
use Rattle.std.proofs.lemmas.Bool.{and_from, cases_Bool}
use Rattle.std.proofs.lemmas.Bool.Decides.{nat_tests}
use Rattle.std.proofs.lemmas.Fmt.{decimal_is_IsNumeral}
use Rattle.picky_kv.specs.Numbers.{is_numeral, number_below}

-- digits pass
digits_pass : (digits : List ℕ) → AllDigits 10 digits
    → list_all (λ c. is_digit c 10) digits ≡ true
digits_pass [] all = refl
digits_pass (c ∷ cs) all =
    and_from _ _ (grind (arith, nat_tests, all.0)) (digits_pass cs all.1)

-- so does a numeral
numeral_passes : (digits : List ℕ) → IsNumeral 10 digits → is_numeral digits ≡ true
numeral_passes digits numeral =
    and_from _ _ (grind (arith, nat_tests, numeral.0)) (digits_pass digits numeral.1)

-- what the text of a numeral writes, where it is below the limit
pub number_below_numeral : (limit : ℕ) (text : List ℕ) → IsNumeral 10 (without_leading_plus text)
    → digits_value 10 (without_leading_plus text) < limit
    → number_below limit text ≡ Some (digits_value 10 (without_leading_plus text))
unfolding number_below
number_below_numeral limit text numeral below =
    let digits : List ℕ = without_leading_plus text in
    let small : nat_lt (digits_value 10 digits) limit ≡ true = grind (arith, nat_tests, below) in
    rw (and_from _ _ (numeral_passes digits numeral) small) refl

-- a digit is no plus
pub no_plus_first : (digits : List ℕ) → IsNumeral 10 digits → without_leading_plus digits ≡ digits
no_plus_first [] numeral = absurd (omega (arith, numeral.0))
no_plus_first (c ∷ cs) numeral =
    let other : (c == 43) ≡ false = elim (cases_Bool (c == 43)) [
      | inl plus ↦ absurd (grind (arith, nat_tests, plus, numeral.1.0))
      | inr other ↦ other
    ] in
    rw other refl

-- a number is read back from its decimal
pub number_is_read_back : (limit n : ℕ) → limit ≤ 2 ^ 64 → n < limit
    → number_below limit (decimal n) ≡ Some n
number_is_read_back limit n wide below =
    let small : n < 2 ^ 64 = omega arith in
    let numeral = decimal_is_IsNumeral n small in
    let no_plus = no_plus_first (decimal n) numeral.0 in
    let Q : List ℕ → Type 0 = λ ds. IsNumeral 10 ds in
    let value : digits_value 10 (without_leading_plus (decimal n)) ≡ n =
    ap (digits_value 10) no_plus ∙ numeral.1 in
    number_below_numeral limit (decimal n) (subst Q (sym no_plus) numeral.0) (omega (arith, value))
    ∙ ap Some value

-- numbers of 32 bits
pub u32_is_narrow : 2 ^ 32 ≤ 2 ^ 64
u32_is_narrow = omega arith

-- numbers of 16 bits
pub u16_is_narrow : 2 ^ 16 ≤ 2 ^ 64
u16_is_narrow = omega arith
