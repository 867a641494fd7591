-- The types of numbers, as fields.
use Rattle.std.proofs.Common.{ℕ, ◌^◌, ◌<◌, ◌≤◌, false, List, refl}
use Rattle.std.specs.Fmt.{decimal}
use Rattle.picky_kv_words.specs.Field.{Field}
use Rattle.picky_kv.specs.Numbers.{u32_row, count_row, number_below}
use Rattle.picky_kv.specs.carried.Numbers.{number_is_read_back, u32_is_narrow, u16_is_narrow}

-- the type of the numbers below a limit of at most 64 bits
abbrev pub number_field : (limit : ℕ) → limit ≤ 2 ^ 64 → List ℕ → Field ℕ
number_field limit wide expected = record {
  meaning = number_below limit;
  is_big = λ _. false;
  expected = expected;
  spelling = decimal;
  fits = λ n. n < limit;
  short = λ _ _. refl;
  read_back = λ n below. number_is_read_back limit n wide below;
}

-- the numbers of Argon2
unfoldable pub u32_field : Field ℕ
u32_field = number_field (2 ^ 32) u32_is_narrow u32_row.expected

-- how many lines a block has
unfoldable pub count_field : Field ℕ
count_field = number_field (2 ^ 16) u16_is_narrow count_row.expected
