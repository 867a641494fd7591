-- A number is read from its decimal, behind zeros and a plus, and from no other text.
use Rattle.std.proofs.Common.{◌≡◌, ℕ, zero, suc, ◌+◌, ◌*◌, ◌/◌, ◌%◌, ◌^◌, ◌<◌, ◌≤◌, ◌==◌, ◌&&◌}
use Rattle.std.proofs.Common.{◌⊎◌, Bool, true}
use Rattle.std.specs.List.{list_all}
use Rattle.std.proofs.Common.{List, [], ◌∷◌, ◌++◌, length, replicate, codes, Some, None}
use Rattle.std.proofs.Common.{refl, sym, ◌∙◌, ap, arith, subst, inl, inr}
use Rattle.std.specs.Prelude.{nat_lt}
use Rattle.std.specs.Char.{is_digit, digit_value}
use Rattle.std.specs.Fmt.{decimal}
use Rattle.std.specs.Str.Parse.{AllDigits, IsNumeral, digits_value, digits_value_after}
use Rattle.std.specs.Str.Parse.{without_leading_plus}
use Rattle.std.proofs.lemmas.Bool.{and_parts, cases_Bool, cases_lt, eqb-true}
use Rattle.std.proofs.lemmas.Bool.Decides.{nat_tests}
use Rattle.std.proofs.lemmas.Fmt.{decimal_is_IsNumeral, decimal_digit, decimal_step}
use Rattle.std.proofs.lemmas.List.{append_assoc, append-nil}
use Rattle.picky_kv_words.specs.Field.{IsOfRow}
use Rattle.picky_kv.specs.Numbers.{IsNumberText, is_numeral, number_below}
use Rattle.picky_kv.specs.carried.Numbers.{number_below_numeral}
use Rattle.picky_kv.specs.carried.Numbers.{no_plus_first}
use Rattle.picky_kv.specs.NumberFields.{number_field}
use Rattle.picky_kv.specs.Numbers.{numbers_below}

-- ---- which texts are read

-- what passes is digits
passing_are_digits : (digits : List ℕ) → list_all (λ c. is_digit c 10) digits ≡ true
    → AllDigits 10 digits
passing_are_digits [] pass = tt
passing_are_digits (c ∷ cs) pass =
    let parts = and_parts (is_digit c 10) (list_all (λ d. is_digit d 10) cs) pass in
    let small : digit_value c < 10 = grind (arith, nat_tests, parts.0) in
    (small, passing_are_digits cs parts.1)

-- and what passes as a numeral is one
passing_is_numeral : (digits : List ℕ) → is_numeral digits ≡ true → IsNumeral 10 digits
passing_is_numeral digits pass =
    let all : Bool = list_all (λ c. is_digit c 10) digits in
    let parts = and_parts (nat_lt 0 (length digits)) all pass in
    let some : 0 < length digits = grind (arith, nat_tests, parts.0) in
    (some, passing_are_digits digits parts.1)

-- a text that is no numeral below the limit writes no number
pub number_below_none : (limit : ℕ) (text : List ℕ)
    → (IsNumeral 10 (without_leading_plus text)
    × (digits_value 10 (without_leading_plus text) < limit) → ⊥)
    → number_below limit text ≡ None
unfolding number_below
number_below_none limit text neither =
    let digits : List ℕ = without_leading_plus text in
    let passes : Bool = is_numeral digits && nat_lt (digits_value 10 digits) limit in
    elim (cases_Bool passes) [
      | inl passed ↦
          let small : Bool = nat_lt (digits_value 10 digits) limit in
          let parts = and_parts (is_numeral digits) small passed in
          let below : digits_value 10 digits < limit = grind (arith, nat_tests, parts.1) in
          absurd (neither (passing_is_numeral digits parts.0, below))
      | inr failed ↦ rw failed refl
    ]

-- ---- a numeral is zeros and a decimal

-- a digit by its value
digit_is : (c : ℕ) → digit_value c < 10 → c ≡ 48 + digit_value c
digit_is c low = grind (arith, nat_tests, low)

-- more digits make a larger number
after_grows : (n : ℕ) (cs : List ℕ) → n ≤ digits_value_after 10 n cs
after_grows n [] = omega arith
after_grows n (c ∷ cs) = omega (arith, after_grows (n * 10 + digit_value c) cs)

zeros_push : (z : ℕ) (ys : List ℕ) → replicate z 48 ++ 48 ∷ ys ≡ 48 ∷ (replicate z 48 ++ ys)
zeros_push zero ys = refl
zeros_push (suc z) ys = ap (λ l. 48 ∷ l) (zeros_push z ys)

-- one digit more
digit_more : (z n d : ℕ) → d < 10 → n * 10 + d < 2 ^ 64
    → (y : ℕ) × (((replicate z 48 ++ decimal n) ++ (48 + d) ∷ [])
    ≡ (replicate y 48 ++ decimal (n * 10 + d)))
digit_more z n d low below = elim (cases_lt 0 n) [
  | inl some ↦
      let front : (n * 10 + d) / 10 ≡ n = omega arith in
      let last : (n * 10 + d) % 10 ≡ d = omega arith in
      let step = decimal_step (n * 10 + d) (omega arith) below in (
        z,
        append_assoc (replicate z 48) (decimal n) ((48 + d) ∷ [])
            ∙ ap (λ l. replicate z 48 ++ l) (sym (rw (front, last) at step)),
      )
  | inr none ↦
      let is : n ≡ 0 = omega arith in
      let whole : n * 10 + d ≡ d = omega arith in
      let first : decimal 0 ≡ 48 ∷ [] = decimal_digit 0 (omega arith) in
      let digit = decimal_digit d low in
      (suc z, rw (whole, is, first, digit, append_assoc) (zeros_push z ((48 + d) ∷ [])))
]

-- so many digits more
digits_more : (z n : ℕ) (cs : List ℕ) → AllDigits 10 cs → digits_value_after 10 n cs < 2 ^ 64
    → (y : ℕ) × (((replicate z 48 ++ decimal n) ++ cs)
    ≡ (replicate y 48 ++ decimal (digits_value_after 10 n cs)))
digits_more z n [] all below = (z, append-nil (replicate z 48 ++ decimal n))
digits_more z n (c ∷ cs) all below =
    let d : ℕ = digit_value c in
    let low : d < 10 = all.0 in
    let grows = after_grows (n * 10 + d) cs in
    let step = digit_more z n d low (omega arith) in
    let later = digits_more step.0 (n * 10 + d) cs all.1 below in
    let push : (replicate z 48 ++ decimal n) ++ c ∷ cs
    ≡ ((replicate z 48 ++ decimal n) ++ c ∷ []) ++ cs =
    sym (append_assoc (replicate z 48 ++ decimal n) (c ∷ []) cs) in
    let digit : (replicate z 48 ++ decimal n) ++ c ∷ []
    ≡ (replicate z 48 ++ decimal n) ++ (48 + d) ∷ [] =
    ap (λ b. (replicate z 48 ++ decimal n) ++ b ∷ []) (digit_is c low) in
    (later.0, push ∙ ap (λ l. l ++ cs) (digit ∙ step.1) ∙ later.1)

-- a numeral
numeral_is : (digits : List ℕ) → IsNumeral 10 digits → digits_value 10 digits < 2 ^ 64
    → (y : ℕ) × (digits ≡ (replicate y 48 ++ decimal (digits_value 10 digits)))
numeral_is [] numeral below = absurd (omega (arith, numeral.0))
numeral_is (c ∷ cs) numeral below =
    let d : ℕ = digit_value c in
    let low : d < 10 = numeral.1.0 in
    let first : decimal (0 * 10 + d) ≡ (48 + (0 * 10 + d)) ∷ [] =
    decimal_digit (0 * 10 + d) (omega arith) in
    let digit : c ≡ 48 + (0 * 10 + d) = omega (arith, digit_is c low) in
    let start : c ∷ [] ≡ decimal (0 * 10 + d) = ap (λ b. b ∷ []) digit ∙ sym first in
    let later = digits_more 0 (0 * 10 + d) cs numeral.1.1 below in
    (later.0, ap (λ l. l ++ cs) start ∙ later.1)

-- ---- zeros and a decimal are a numeral

zeros_are_digits : (z : ℕ) (cs : List ℕ) → AllDigits 10 cs → AllDigits 10 (replicate z 48 ++ cs)
zeros_are_digits zero cs all = all
zeros_are_digits (suc z) cs all = (omega arith, zeros_are_digits z cs all)

zeros_add_nothing : (z : ℕ) (cs : List ℕ)
    → digits_value 10 (replicate z 48 ++ cs) ≡ digits_value 10 cs
zeros_add_nothing zero cs = refl
zeros_add_nothing (suc z) cs = zeros_add_nothing z cs

zeros_then_some : (z : ℕ) (cs : List ℕ) → 0 < length cs → 0 < length (replicate z 48 ++ cs)
zeros_then_some zero cs some = some
zeros_then_some (suc z) cs some = omega arith

-- ---- both ways

-- a text without its plus, and with it
with_its_plus : (text digits : List ℕ) → without_leading_plus text ≡ digits → 0 < length digits
    → (sign : List ℕ) × (text ≡ sign ++ digits) × ((sign ≡ []) ⊎ (sign ≡ codes "+"))
with_its_plus [] digits is some = absurd (omega (arith, ap length is))
with_its_plus (c ∷ cs) digits is some = elim (cases_Bool (c == 43)) [
  | inl plus ↦
      let same : c ≡ 43 = eqb-true c 43 plus in
      let rest : cs ≡ digits = rw plus at is in
      (43 ∷ [], rw (same, rest) refl, inr refl)
  | inr other ↦ ([], rw other at is, inl refl)
]

without_its_plus : (sign digits : List ℕ) → IsNumeral 10 digits
    → (sign ≡ []) ⊎ (sign ≡ codes "+") → without_leading_plus (sign ++ digits) ≡ digits
without_its_plus sign digits numeral plus = elim plus [
  | inl none ↦ rw none (no_plus_first digits numeral)
  | inr one ↦ rw one refl
]

text_reads : (limit : ℕ) (text : List ℕ) (n : ℕ) → limit ≤ 2 ^ 64 → IsNumberText limit text n
    → number_below limit text ≡ Some n
text_reads limit text n wide is =
    let below : n < limit = is.below in
    let ds = decimal_is_IsNumeral n (omega arith) in
    let digits : List ℕ = replicate is.zeros 48 ++ decimal n in
    let numeral : IsNumeral 10 digits =
    (zeros_then_some is.zeros (decimal n) ds.0.0, zeros_are_digits is.zeros (decimal n) ds.0.1) in
    let value : digits_value 10 digits ≡ n = zeros_add_nothing is.zeros (decimal n) ∙ ds.1 in
    let bare : without_leading_plus text ≡ digits =
    ap without_leading_plus is.joined ∙ without_its_plus is.sign digits numeral is.plus in
    let Q : List ℕ → Type 0 = λ l. IsNumeral 10 l in
    let whole : digits_value 10 (without_leading_plus text) ≡ n =
    ap (digits_value 10) bare ∙ value in
    number_below_numeral limit text (subst Q (sym bare) numeral) (omega (arith, whole))
    ∙ ap Some whole

behind_its_plus : (text sign digits zeros : List ℕ) (m n : ℕ) → text ≡ sign ++ digits
    → digits ≡ zeros ++ decimal m → m ≡ n → text ≡ sign ++ (zeros ++ decimal n)
behind_its_plus text sign digits zeros m n whole is same =
    rw (← same) (whole ∙ ap (λ l. sign ++ l) is)

read_text : (limit : ℕ) (text : List ℕ) (n : ℕ) → limit ≤ 2 ^ 64 → number_below limit text ≡ Some n
    → IsNumberText limit text n
unfolding number_below
read_text limit text n wide reads =
    let digits : List ℕ = without_leading_plus text in
    let small : Bool = nat_lt (digits_value 10 digits) limit in
    elim (cases_Bool (is_numeral digits && small)) [
      | inl passed ↦
          let parts = and_parts (is_numeral digits) small passed in
          let below : digits_value 10 digits < limit = grind (arith, nat_tests, parts.1) in
          let numeral = passing_is_numeral digits parts.0 in
          let some : Some (digits_value 10 digits) ≡ Some n = rw passed at reads in
          let value : digits_value 10 digits ≡ n = cc some in
          let is = numeral_is digits numeral (omega arith) in
          let signed = with_its_plus text digits refl numeral.0 in
          record {
            sign = signed.0;
            zeros = is.0;
            joined = behind_its_plus text signed.0 digits (replicate is.0 48)
                (digits_value 10 digits) n signed.1 is.1 value;
            plus = signed.2;
            below = omega (arith, value);
          }
      | inr failed ↦ cc (rw failed at reads)
    ]

pub number_field_is : (limit : ℕ) (wide : limit ≤ 2 ^ 64) (expected : List ℕ)
    → IsOfRow (number_field limit wide expected) (numbers_below limit expected)
number_field_is limit wide expected = record {
  reads = λ text n _. (read_text limit text n wide, text_reads limit text n wide);
  writes = λ _. refl;
  gives = λ _. refl;
  expects = refl;
}
