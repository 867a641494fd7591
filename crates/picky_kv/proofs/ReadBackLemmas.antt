-- What is written is read back: the steps.
use Rattle.std.proofs.Common.{◌≡◌, ◌≢◌, ℕ, ◌+◌, ◌-◌, ◌^◌, ◌<◌, ◌==◌, ◌||◌}
use Rattle.std.proofs.Common.{not}
use Rattle.std.proofs.Common.{true, false, List, [], ◌∷◌, ◌++◌, length, slice_index, refl, sym, ◌∙◌}
use Rattle.std.proofs.Common.{arith, Some, Ok}
use Rattle.std.proofs.lemmas.Bool.{and_parts}
use Rattle.std.proofs.lemmas.Bool.Decides.{nat_tests}
use Rattle.std.proofs.lemmas.List.{append_assoc, length-append, get_or-append-add}
use Rattle.std.proofs.lemmas.Fmt.{decimal_is_IsNumeral}
use Rattle.std.specs.Fmt.{decimal}
use Rattle.std.specs.Str.Parse.{AllDigits}
use Rattle.std.specs.List.{AllByRecursion, concat}
use Rattle.picky_text.specs.Lines.{HasNo, lines}
use Rattle.picky_text.specs.Lines.{IsLine, AreLines}
use Rattle.picky_text.proofs.LineLaws.{lines_are_read_first, one_line}
use Rattle.picky_text.proofs.ListLaws.{all_append}
use Rattle.picky_text.specs.Rows.{rows_of}
use Rattle.picky_text.proofs.RowLaws.{rows_of_are_rows, rows_have_no}
use Rattle.picky_text.specs.declared.lines.LineEnd.{LineEnd}
use Rattle.picky_text.specs.declared.lines.LineEnd.TheVariants.{Lf, CrLf}
use Rattle.picky_kv_words.specs.Field.{Field, field_value}
use Rattle.picky_kv_words.specs.Literal.{is_plain}
use Rattle.picky_kv.specs.Lines.{key_and_value, first_joined, next_pair}
use Rattle.picky_kv.specs.NumberFields.{count_field}
use Rattle.picky_kv.specs.Output.{pair_line}
use Rattle.picky_kv.specs.ReadBack.{PairIsReadBack, BlockIsReadBack}

-- a value that fits is the answer for its written text
pub outcome_of_spelling : {A : Type 0} (field : Field A) (v : A) → field.fits v
    → field_value field (field.spelling v) ≡ Ok v
outcome_of_spelling field v fits = rw (field.read_back v fits, field.short v fits) refl

-- a plain text has no colon, CR and LF
pub record IsPlain (text : List ℕ) : Type 0 where
  pub colon : HasNo 58 text
  pub cr : HasNo 13 text
  pub lf : HasNo 10 text

plain_byte : (b : ℕ) → not (b == 58 || b == 13 || b == 10) ≡ true → (b ≢ 58) × (b ≢ 13) × (b ≢ 10)
plain_byte b test = (
  λ same. grind (arith, nat_tests, test, same),
  λ same. grind (arith, nat_tests, test, same),
  λ same. grind (arith, nat_tests, test, same),
)

pub plain : (text : List ℕ) → is_plain text ≡ true → IsPlain text
plain [] test = record { colon = tt; cr = tt; lf = tt }
plain (b ∷ text) test =
    let parts = and_parts (not (b == 58 || b == 13 || b == 10)) (is_plain text) test in
    let first = plain_byte b parts.0 in
    let more = plain text parts.1 in
    record { colon = (first.0, more.colon); cr = (first.1, more.cr); lf = (first.2, more.lf) }

-- a line is cut behind a key without a colon
pub key_and_value_pair : (key value : List ℕ) → HasNo 58 key
    → key_and_value (key ++ 58 ∷ 32 ∷ value) ≡ Some (key, value)
key_and_value_pair [] value none = refl
key_and_value_pair (a ∷ []) value none =
    let other : (a == 58) ≡ false = grind (arith, nat_tests, none.0) in
    rw other refl
key_and_value_pair (a ∷ b ∷ key) value none =
    let other : (a == 58) ≡ false = grind (arith, nat_tests, none.0) in
    rw (other, key_and_value_pair (b ∷ key) value none.1) refl

-- so many lines are joined, whatever follows
pub first_joined_lines : (ls more : List (List ℕ))
    → first_joined (length ls) (ls ++ more) ≡ Some (concat ls, more)
first_joined_lines [] more = refl
first_joined_lines (line ∷ ls) more = rw (first_joined_lines ls more) refl

-- ---- lines that are written are lines

-- the last byte of joined texts is the last one's
last_of_joined : (front text : List ℕ) → 0 < length text
    → slice_index (front ++ text) (length (front ++ text) - 1) ≡ slice_index text (length text - 1)
last_of_joined front text some =
    let whole = length-append front text in
    let at : length (front ++ text) - 1 ≡ length front + (length text - 1) = omega arith in
    rw at (get_or-append-add front text (length text - 1) 0)

-- the last byte behind a separator is no CR where the value's is none
separated_last : (value : List ℕ) → slice_index value (length value - 1) ≢ 13
    → slice_index (58 ∷ 32 ∷ value) (length (58 ∷ 32 ∷ value) - 1) ≢ 13
separated_last [] other = λ same. cc same
separated_last (c ∷ value) other = λ same.
    other (sym (last_of_joined (58 ∷ 32 ∷ []) (c ∷ value) (omega arith)) ∙ same)

separated : (key value : List ℕ) → pair_line key value ≡ key ++ 58 ∷ 32 ∷ value
separated key value = append_assoc key (58 ∷ 32 ∷ []) value

pair_has_no_lf : (key value : List ℕ) → IsPlain key → HasNo 10 value
    → HasNo 10 (key ++ 58 ∷ 32 ∷ value)
pair_has_no_lf key value is none =
    all_append (λ b. b ≢ 10) key (58 ∷ 32 ∷ value) is.lf (λ same. cc same, (λ same. cc same, none))

-- the line of a plain key and a value that is a line
pair_is_line : (end : LineEnd) (key value : List ℕ) → IsPlain key → IsLine end value
    → IsLine end (pair_line key value)
pair_is_line Lf key value is line =
    let last = separated_last value line.1 in
    rw (separated key value) (
      pair_has_no_lf key value is line.0,
      λ same. last (sym (last_of_joined key (58 ∷ 32 ∷ value) (omega arith)) ∙ same),
    )
pair_is_line CrLf key value is line = rw (separated key value) (pair_has_no_lf key value is line)

-- a digit is no CR and no LF
pub digits_have_no : (b : ℕ) (digits : List ℕ) → b < 48 → AllDigits 10 digits → HasNo b digits
digits_have_no b [] low all = tt
digits_have_no b (c ∷ cs) low all =
    (λ same. grind (arith, nat_tests, all.0, same), digits_have_no b cs low all.1)

decimal_is_line : (end : LineEnd) (n : ℕ) → n < 2 ^ 64 → IsLine end (decimal n)
decimal_is_line end n small =
    let digits = (decimal_is_IsNumeral n small).0.1 in
    one_line end (decimal n) (
      digits_have_no 13 (decimal n) (omega arith) digits,
      digits_have_no 10 (decimal n) (omega arith) digits,
    )

lines_of_rows : (end : LineEnd) (rows : List (List ℕ)) → AllByRecursion (HasNo 10) rows
    → AllByRecursion (HasNo 13) rows → AreLines end rows
lines_of_rows end [] lf cr = tt
lines_of_rows end (row ∷ rows) lf cr =
    (one_line end row (cr.0, lf.0), lines_of_rows end rows lf.1 cr.1)

-- ---- read back

-- a pair, first among lines
pair_is_first : {K V : Type 0} (key : Field K) (value : Field V) (context : List ℕ) (k : K) (v : V)
    (more : List (List ℕ)) → is_plain (key.spelling k) ≡ true → key.fits k → value.fits v
    → next_pair key value context (pair_line (key.spelling k) (value.spelling v) ∷ more)
    ≡ Ok ((k, v), more)
pair_is_first key value context k v more test key_fits fits =
    rw (
      separated (key.spelling k) (value.spelling v),
      key_and_value_pair (key.spelling k) (value.spelling v) (plain (key.spelling k) test).colon,
      outcome_of_spelling key k key_fits,
      outcome_of_spelling value v fits,
    ) refl

pub pair_is_read_back : {K V : Type 0} (key : Field K) (value : Field V) (context : List ℕ)
    → ((k : K) → is_plain (key.spelling k) ≡ true) → PairIsReadBack key value context
pair_is_read_back key value context test end k v rest key_fits fits line =
    let text : List ℕ = pair_line (key.spelling k) (value.spelling v) in
    let is = pair_is_line end (key.spelling k) (value.spelling v) (plain (key.spelling k) (test k))
    line in
    rw (lines_are_read_first end (text ∷ []) (is, tt) rest)
    (pair_is_first key value context k v (lines rest) (test k) key_fits fits)

-- the count of a block, first among lines
count_is_first : {K : Type 0} (key : Field K) (context : List ℕ) (k : K) (n : ℕ)
    (more : List (List ℕ)) → is_plain (key.spelling k) ≡ true → key.fits k → n < 2 ^ 16
    → next_pair key count_field context (pair_line (key.spelling k) (decimal n) ∷ more)
    ≡ Ok ((k, n), more)
unfolding count_field
count_is_first key context k n more test key_fits below =
    pair_is_first key count_field context k n more test key_fits below

pub block_is_read_back : {K V : Type 0} (key : Field K) (value : Field V) (context : List ℕ)
    → ((k : K) → is_plain (key.spelling k) ≡ true) → BlockIsReadBack key value context
block_is_read_back key value context test end k v rest key_fits fits lf cr few =
    let text : List ℕ = value.spelling v in
    let rows : List (List ℕ) = rows_of text in
    let below : length rows < 2 ^ 16 = omega arith in
    let small : length rows < 2 ^ 64 = omega arith in
    let head : List ℕ = pair_line (key.spelling k) (decimal (length rows)) in
    let is = pair_is_line end (key.spelling k) (decimal (length rows))
    (plain (key.spelling k) (test k)) (decimal_is_line end (length rows) small) in
    let are = lines_of_rows end rows (rows_have_no 10 text lf) (rows_have_no 13 text cr) in
    rw (
      lines_are_read_first end (head ∷ rows) (is, are) rest,
      count_is_first key context k (length rows) (rows ++ lines rest) (test k) key_fits below,
      first_joined_lines rows (lines rest),
      (rows_of_are_rows text).joined,
      outcome_of_spelling value v fits,
    ) refl
