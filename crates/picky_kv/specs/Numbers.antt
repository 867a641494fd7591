-- Numbers in decimal, as std's `parse` reads them: a plus and leading zeros may stand first.
use Rattle.std.proofs.Common.{◌≡◌, ℕ, ◌^◌, ◌<◌, ◌&&◌, Bool, false, List, [], ◌++◌, ◌⊎◌, replicate, codes}
use Rattle.std.proofs.Common.{length}
use Rattle.std.specs.Prelude.{nat_lt, if◌then◌else◌, Option, Some, None}
use Rattle.std.specs.Char.{is_digit}
use Rattle.std.specs.Fmt.{decimal}
use Rattle.std.specs.List.{list_all}
use Rattle.std.specs.Str.Parse.{digits_value, without_leading_plus}
use Rattle.picky_kv_words.specs.Field.{FieldRow}

-- a number below the limit in decimal: a plus may stand first, and then zeros, which are 48
pub record IsNumberText (limit : ℕ) (text : List ℕ) (n : ℕ) : Type 0 where
  pub sign : List ℕ
  pub zeros : ℕ
  pub joined : text ≡ sign ++ (replicate zeros 48 ++ decimal n)
  pub plus : (sign ≡ []) ⊎ (sign ≡ codes "+")
  pub below : n < limit

-- the row of the numbers below a limit
abbrev pub numbers_below : ℕ → List ℕ → FieldRow ℕ
numbers_below limit expected = record {
  StandsFor = IsNumberText limit;
  written = decimal;
  is_big = λ _. false;
  expected = expected;
}

-- the row of Argon2's numbers
abbrev pub u32_row : FieldRow ℕ
u32_row = numbers_below (2 ^ 32) (codes "<valid u32 value>")

-- the row of a block's count of lines
abbrev pub count_row : FieldRow ℕ
count_row = numbers_below (2 ^ 16) (codes "<valid lines count>")

-- one digit or more, and nothing else
abbrev pub is_numeral : List ℕ → Bool
is_numeral digits = nat_lt 0 (length digits) && list_all (λ c. is_digit c 10) digits

-- the number below the limit that the text writes
unfoldable pub number_below : ℕ → List ℕ → Option ℕ
number_below limit text =
    let digits = without_leading_plus text in
    if is_numeral digits && nat_lt (digits_value 10 digits) limit then
    Some (digits_value 10 digits)
    else None
