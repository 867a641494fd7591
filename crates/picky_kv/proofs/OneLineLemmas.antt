-- What is written has no CR and no LF.
use Rattle.std.proofs.Common.{◌≡◌, ◌≢◌, ℕ, ◌^◌, ◌<◌, ◌/◌, ◌%◌, true, List, [], ◌∷◌, None, refl, sym, ◌∙◌, ap, arith}
use Rattle.std.proofs.lemmas.Fmt.{decimal_is_IsNumeral}
use Rattle.std.specs.{Fmt.{decimal}, List.{AllByRecursion}}
use Rattle.hex.specs.Hex.{encode_lower, hex_digit_value}
use Rattle.hex.proofs.HexLemmas.{IsDigits-lower_digits}
use Rattle.picky_wire_base.specs.Numbers.{IsBytes}
use Rattle.picky_text.proofs.{Base64Laws.{base64_has_no}, RowLaws.{rows_have_no}}
use Rattle.picky_text.specs.{Lines.{HasNo}, Rows.{rows_of}}
use Rattle.picky_kv.specs.{Algorithm.{algorithm_literal}, AlgorithmField.{algorithm_field}}
use Rattle.picky_kv.specs.{NumberFields.{u32_field, count_field}, Parts.{HasNoLineEnd, AreOneLine}}
use Rattle.picky_kv.specs.declared.algorithm.PpkKeyAlgorithmValue.{PpkKeyAlgorithmValue}
use Rattle.picky_kv_words.specs.ChoiceFields.{encryption_field, flavour_field}
use Rattle.picky_kv_words.specs.{Choices.{encryption_literal, flavour_literal}, Literal.{is_plain}}
use Rattle.picky_kv_words.specs.ValueFields.{base64_field, hex_field}
use Rattle.picky_kv_words.specs.Values.{padded_base64, AreHexPairs, IsLowerDigit}
use Rattle.picky_kv_words.specs.declared.choices.PpkEncryptionValue.{PpkEncryptionValue}
use Rattle.picky_kv_words.specs.declared.choices.Argon2FlavourValue.{Argon2FlavourValue}
use Rattle.picky_kv.specs.declared.algorithm.PpkKeyAlgorithmValue.TheVariants as algorithm
use Rattle.picky_kv_words.specs.declared.choices.PpkEncryptionValue.TheVariants as encryption
use Rattle.picky_kv_words.specs.declared.choices.Argon2FlavourValue.TheVariants as flavour
use Rattle.picky_kv.proofs.{ReadBackLemmas.{plain, digits_have_no}, ValueLemmas.{hex_is_lower, base64_is_padded}}

-- ---- literals

pub plain_is_one_line : (text : List ℕ) → is_plain text ≡ true → HasNoLineEnd text
plain_is_one_line text test = let is = plain text test in (is.cr, is.lf)

algorithms_are_plain : (v : PpkKeyAlgorithmValue) → is_plain (algorithm_literal v) ≡ true
algorithms_are_plain algorithm.Rsa = refl
algorithms_are_plain algorithm.Dss = refl
algorithms_are_plain algorithm.EcdsaSha2Nistp256 = refl
algorithms_are_plain algorithm.EcdsaSha2Nistp384 = refl
algorithms_are_plain algorithm.EcdsaSha2Nistp521 = refl
algorithms_are_plain algorithm.Ed25519 = refl
algorithms_are_plain algorithm.Ed448 = refl

encryptions_are_plain : (v : PpkEncryptionValue) → is_plain (encryption_literal v) ≡ true
encryptions_are_plain encryption.None = refl
encryptions_are_plain encryption.Aes256Cbc = refl

flavours_are_plain : (v : Argon2FlavourValue) → is_plain (flavour_literal v) ≡ true
flavours_are_plain flavour.Argon2d = refl
flavours_are_plain flavour.Argon2i = refl
flavours_are_plain flavour.Argon2id = refl

pub algorithms_are_one_line : AreOneLine algorithm_field
unfolding algorithm_field
algorithms_are_one_line v _ = plain_is_one_line (algorithm_literal v) (algorithms_are_plain v)

pub encryptions_are_one_line : AreOneLine encryption_field
unfolding encryption_field
encryptions_are_one_line v _ = plain_is_one_line (encryption_literal v) (encryptions_are_plain v)

pub flavours_are_one_line : AreOneLine flavour_field
unfolding flavour_field
flavours_are_one_line v _ = plain_is_one_line (flavour_literal v) (flavours_are_plain v)

-- ---- numbers

decimal_is_one_line : (n : ℕ) → n < 2 ^ 64 → HasNoLineEnd (decimal n)
decimal_is_one_line n small =
    let digits = (decimal_is_IsNumeral n small).0.1 in (
      digits_have_no 13 (decimal n) (omega arith) digits,
      digits_have_no 10 (decimal n) (omega arith) digits,
    )

pub numbers_are_one_line : AreOneLine u32_field
unfolding u32_field
numbers_are_one_line n below = decimal_is_one_line n (omega arith)

pub counts_are_one_line : AreOneLine count_field
unfolding count_field
counts_are_one_line n below = decimal_is_one_line n (omega arith)

-- ---- hex

-- a byte that is no digit is none of the digits
other_digit : (b c d : ℕ) → hex_digit_value b ≡ None → IsLowerDigit d c → c ≢ b
other_digit b c d none is same =
    let reads = IsDigits-lower_digits d is.0 in
    cc (sym none ∙ ap hex_digit_value (sym same ∙ is.1) ∙ reads)

pairs_have_no : (b : ℕ) (text bytes : List ℕ) → hex_digit_value b ≡ None
    → AreHexPairs IsLowerDigit text bytes → HasNo b text
pairs_have_no b [] bytes none are = tt
pairs_have_no b (c ∷ []) bytes none are = absurd are
pairs_have_no b (high ∷ low ∷ text) [] none are = absurd are
pairs_have_no b (high ∷ low ∷ text) (x ∷ bytes) none are = (
  other_digit b high (x / 16) none are.0,
  (other_digit b low (x % 16) none are.1, pairs_have_no b text bytes none are.2),
)

pub hex_is_one_line : AreOneLine hex_field
unfolding hex_field
hex_is_one_line bytes few = (
  pairs_have_no 13 (encode_lower bytes) bytes refl (hex_is_lower bytes few.1),
  pairs_have_no 10 (encode_lower bytes) bytes refl (hex_is_lower bytes few.1),
)

-- ---- base64

pub padded_is_one_line : (bytes : List ℕ) → IsBytes bytes → HasNoLineEnd (padded_base64 bytes)
padded_is_one_line bytes small =
    rw (← base64_is_padded bytes)
    (base64_has_no 13 bytes small refl, base64_has_no 10 bytes small refl)

pub base64_is_one_line : AreOneLine base64_field
unfolding base64_field
base64_is_one_line bytes few =
    (base64_has_no 13 bytes few.1 refl, base64_has_no 10 bytes few.1 refl)

both_of_each : (rows : List (List ℕ)) → AllByRecursion (HasNo 13) rows
    → AllByRecursion (HasNo 10) rows → AllByRecursion HasNoLineEnd rows
both_of_each [] cr lf = tt
both_of_each (row ∷ rows) cr lf = ((cr.0, lf.0), both_of_each rows cr.1 lf.1)

pub rows_are_one_line : (bytes : List ℕ) → IsBytes bytes
    → AllByRecursion HasNoLineEnd (rows_of (padded_base64 bytes))
rows_are_one_line bytes small =
    let text : List ℕ = padded_base64 bytes in
    let none : HasNoLineEnd text = padded_is_one_line bytes small in
    both_of_each (rows_of text) (rows_have_no 13 text none.0) (rows_have_no 10 text none.1)
