-- A text names a number where it is its decimal.
use Rattle.std.proofs.Common.{◌≡◌, ◌≢◌, ℕ, ◌+◌, ◌*◌, ◌/◌, ◌%◌, ◌^◌, ◌<◌, ◌≤◌, ◌&&◌, ◌⊎◌, ◌↔◌, Bool, true, List, [], ◌∷◌, ◌++◌}
use Rattle.std.proofs.Common.{length, get_or, Some, None, refl, sym, ◌∙◌, ap, subst, inl, inr, arith}
use Rattle.std.specs.Prelude.{nat_lt}
use Rattle.std.specs.Char.{digit_value}
use Rattle.std.specs.Fmt.{decimal}
use Rattle.std.specs.Str.{bytes_eq}
use Rattle.std.specs.Str.Parse.{AllDigits, IsNumeral, digits_value, digits_value_after, without_leading_plus}
use Rattle.std.proofs.lemmas.Bool.{and_parts, and_from, cases_Bool, cases_lt}
use Rattle.std.proofs.lemmas.Bool.Decides.{nat_tests}
use Rattle.std.proofs.lemmas.Fmt.{decimal_is_IsNumeral, decimal_digit, decimal_step, first_decimal}
use Rattle.std.proofs.lemmas.List.{append_assoc, append-nil}
use Rattle.std.proofs.lemmas.Slice.Eq.{bytes_eq-Decides}
use Rattle.std.proofs.lemmas.Str.Parse.{without_leading_plus_none}
use Rattle.picky_issuing.specs.Value.{number_named}

-- ---- its decimal

-- the decimal of a number names it
pub decimal_names : (text : List ℕ) (n : ℕ) → text ≡ decimal n → n < 2 ^ 64 → number_named text ≡ Some n
unfolding number_named
decimal_names text n is below =
    let value : digits_value 10 text ≡ n = ap (digits_value 10) is ∙ (decimal_is_IsNumeral n below).1 in
    let small : nat_lt n (2 ^ 64) ≡ true = grind (arith, nat_tests, below) in
    rw (value, and_from _ _ small ((bytes_eq-Decides text (decimal n)).1 is)) refl

-- what a text names has the text for its decimal
pub named_is_decimal : (text : List ℕ) (n : ℕ) → number_named text ≡ Some n → (text ≡ decimal n) × (n < 2 ^ 64)
unfolding number_named
named_is_decimal text n names =
    let m : ℕ = digits_value 10 text in
    let passes : Bool = nat_lt m (2 ^ 64) && bytes_eq text (decimal m) in
    elim (cases_Bool passes) [
      | inl passed ↦
          let parts = and_parts (nat_lt m (2 ^ 64)) (bytes_eq text (decimal m)) passed in
          let some : Some m ≡ Some n = rw passed at names in
          let same : m ≡ n = cc some in
          let below : m < 2 ^ 64 = grind (arith, nat_tests, parts.0) in
          let is : text ≡ decimal m = (bytes_eq-Decides text (decimal m)).0 parts.1 in
          (is ∙ ap decimal same, omega (arith, same, below))
      | inr failed ↦
          let none : None ≡ Some n = rw failed at names in
          absurd (cc none)
    ]

pub number_is_its_decimal : (text : List ℕ) (n : ℕ) → (number_named text ≡ Some n) ↔ ((text ≡ decimal n) × (n < 2 ^ 64))
number_is_its_decimal text n = (named_is_decimal text n, λ is. decimal_names text n is.0 is.1)

-- a text that is no decimal names no number
pub names_none : (text : List ℕ) → ((n : ℕ) → text ≡ decimal n → n < 2 ^ 64 → ⊥) → number_named text ≡ None
unfolding number_named
names_none text never =
    let m : ℕ = digits_value 10 text in
    let passes : Bool = nat_lt m (2 ^ 64) && bytes_eq text (decimal m) in
    elim (cases_Bool passes) [
      | inl passed ↦
          let parts = and_parts (nat_lt m (2 ^ 64)) (bytes_eq text (decimal m)) passed in
          let below : m < 2 ^ 64 = grind (arith, nat_tests, parts.0) in
          absurd (never m ((bytes_eq-Decides text (decimal m)).0 parts.1) below)
      | inr failed ↦ rw failed refl
    ]

-- ---- a numeral without a needless zero is a decimal

-- a digit by its value
digit_is : (c : ℕ) → digit_value c < 10 → c ≡ 48 + digit_value c
digit_is c low = grind (arith, nat_tests, low)

-- more digits make a larger number
after_grows : (n : ℕ) (cs : List ℕ) → n ≤ digits_value_after 10 n cs
after_grows n [] = omega arith
after_grows n (c ∷ cs) = omega (arith, after_grows (n * 10 + digit_value c) cs)

-- one digit behind the decimal of a number above 0
digit_more : (n c : ℕ) → 0 < n → digit_value c < 10 → n * 10 + digit_value c < 2 ^ 64
    → decimal n ++ c ∷ [] ≡ decimal (n * 10 + digit_value c)
digit_more n c some low below =
    let d : ℕ = digit_value c in
    let front : (n * 10 + d) / 10 ≡ n = omega (arith, low) in
    let last : (n * 10 + d) % 10 ≡ d = omega (arith, low) in
    let step = decimal_step (n * 10 + d) (omega (arith, some)) below in
    ap (λ b. decimal n ++ b ∷ []) (digit_is c low) ∙ sym (rw (front, last) at step)

-- all digits behind it
digits_more : (n : ℕ) (cs : List ℕ) → 0 < n → AllDigits 10 cs → digits_value_after 10 n cs < 2 ^ 64
    → decimal n ++ cs ≡ decimal (digits_value_after 10 n cs)
digits_more n [] some all below = append-nil (decimal n)
digits_more n (c ∷ cs) some all below =
    let grows = after_grows (n * 10 + digit_value c) cs in
    let one = digit_more n c some all.0 (omega (arith, grows, below)) in
    sym (append_assoc (decimal n) (c ∷ []) cs) ∙ ap (λ l. l ++ cs) one
    ∙ digits_more (n * 10 + digit_value c) cs (omega (arith, some)) all.1 below

-- 0 alone, or digits of which the first isn't a zero
pub numeral_is_decimal : (text : List ℕ) → IsNumeral 10 text → digits_value 10 text < 2 ^ 64
    → (get_or text 0 0 ≡ 48 → length text ≤ 1) → text ≡ decimal (digits_value 10 text)
numeral_is_decimal [] numeral below plain = absurd (omega (arith, numeral.0))
numeral_is_decimal (c ∷ []) numeral below plain =
    let d : ℕ = 0 * 10 + digit_value c in
    let digit : c ≡ 48 + d = omega (arith, digit_is c numeral.1.0) in
    ap (λ b. b ∷ []) digit ∙ sym (decimal_digit d (omega (arith, numeral.1.0)))
numeral_is_decimal (c ∷ b ∷ cs) numeral below plain =
    let d : ℕ = 0 * 10 + digit_value c in
    let digit : c ≡ 48 + d = omega (arith, digit_is c numeral.1.0) in
    let first : decimal d ≡ (48 + d) ∷ [] = decimal_digit d (omega (arith, numeral.1.0)) in
    let start : c ∷ [] ≡ decimal d = ap (λ b. b ∷ []) digit ∙ sym first in
    let some : 0 < d = elim (cases_lt 0 d) [
      | inl some ↦ some
      | inr none ↦
          let zero_first : c ≡ 48 = omega (arith, digit, none) in
          absurd (omega (arith, plain zero_first))
    ] in
    ap (λ l. l ++ b ∷ cs) start ∙ digits_more d (b ∷ cs) some numeral.1.1 below

-- ---- what is read

-- no plus stands first in a numeral
no_plus : (text : List ℕ) → IsNumeral 10 text → get_or text 0 0 ≡ 43 → ⊥
no_plus [] numeral plus = omega (arith, numeral.0)
no_plus (c ∷ cs) numeral plus = grind (arith, nat_tests, numeral.1.0, plus)

-- a text with a plus, or a zero before more, is no decimal
pub padded_none : (text : List ℕ) → (get_or text 0 0 ≡ 43) ⊎ ((get_or text 0 0 ≡ 48) × (1 < length text))
    → number_named text ≡ None
padded_none text padded = names_none text (λ n is below. elim padded [
  | inl plus ↦
      let Q : List ℕ → Type 0 = λ l. IsNumeral 10 l in
      no_plus text (subst Q (sym is) (decimal_is_IsNumeral n below).0) plus
  | inr zeros ↦ elim (cases_lt 0 n) [
    | inl some ↦
        let first : 48 < get_or (decimal n) 0 0 = first_decimal n some below in
        let same : get_or text 0 0 ≡ get_or (decimal n) 0 0 = ap (λ l. get_or l 0 0) is in
        omega (arith, first, same, zeros.0)
    | inr none ↦
        let zero_is : n ≡ 0 = omega (arith, none) in
        let one : length text ≡ length (decimal 0) = ap length (is ∙ ap decimal zero_is) in
        let short : length (decimal 0) ≡ 1 = ap length (decimal_digit 0 (omega arith)) in
        omega (arith, one, short, zeros.1)
  ]
])

-- a text that is read as a number below 2^64, without a plus and a needless zero, names it
pub read_names : (text : List ℕ) (n : ℕ) → get_or text 0 0 ≢ 43 → (get_or text 0 0 ≡ 48 → length text ≤ 1)
    → (IsNumeral 10 (without_leading_plus text) × (digits_value 10 (without_leading_plus text) < 2 ^ 64))
    × (n ≡ digits_value 10 (without_leading_plus text)) → number_named text ≡ Some n
read_names text n bare plain read =
    let same : without_leading_plus text ≡ text = without_leading_plus_none text bare in
    let P : List ℕ → Type 0 = λ l. (IsNumeral 10 l × (digits_value 10 l < 2 ^ 64)) × (n ≡ digits_value 10 l) in
    let read_bare : P text = subst P same read in
    let is = numeral_is_decimal text read_bare.0.0 read_bare.0.1 plain in
    decimal_names text n (is ∙ ap decimal (sym read_bare.1)) (omega (arith, read_bare.0.1, read_bare.1))

-- and one that isn't read so names none
pub unread_none : (text : List ℕ) → get_or text 0 0 ≢ 43
    → ((IsNumeral 10 (without_leading_plus text) × (digits_value 10 (without_leading_plus text) < 2 ^ 64)) → ⊥)
    → number_named text ≡ None
unread_none text bare unread = names_none text (λ n is below.
    let same : without_leading_plus text ≡ text = without_leading_plus_none text bare in
    let Q : List ℕ → Type 0 = λ l. IsNumeral 10 l × (digits_value 10 l < 2 ^ 64) in
    let numeral = decimal_is_IsNumeral n below in
    let q : Q (decimal n) = (numeral.0, omega (arith, numeral.1, below)) in
    unread (subst Q (sym same) (subst Q (sym is) q)))
