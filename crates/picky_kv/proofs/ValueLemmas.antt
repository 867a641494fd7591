-- Comments, base64 and hex are their rows'.
use Rattle.std.proofs.Common.{◌≡◌, ℕ, zero, suc, ◌+◌, ◌*◌, ◌/◌, ◌%◌, ◌<◌, ◌==◌, ◌&&◌, ◌||◌, Bool}
use Rattle.std.proofs.Common.{true, List, [], ◌∷◌, length, slice_index, Option, Some, None}
use Rattle.std.proofs.Common.{Result, Ok, Err, refl, sym, ◌∙◌, ap, arith, subst, inl, inr}
use Rattle.std.specs.Prelude.{nat_lt}
use Rattle.std.specs.Result.{result_ok}
use Rattle.std.proofs.lemmas.Bool.{and_parts, cases_Bool, cases_lt, eqb-true}
use Rattle.std.proofs.lemmas.Bool.Decides.{nat_tests}
use Rattle.hex.specs.Hex.{encode_with, encode_lower, lower_digits, upper_digits, hex_digit_value}
use Rattle.hex.specs.Hex.{digit_or_error, value_at, pair_value, decode_pairs, decode_of, ◌>>=◌}
use Rattle.hex.specs.declared.error.FromHexError.{FromHexError}
use Rattle.hex.proofs.HexLemmas.{IsDigits-lower_digits, IsDigits-upper_digits, decode_of-even}
use Rattle.hex.proofs.Pairs.{cons_byte, decode_pairs-ok_pair}
use Rattle.picky_wire_base.specs.Numbers.{IsBytes}
use Rattle.picky_text.specs.Base64.{base64_of, decoded}
use Rattle.picky_text.proofs.Base64Laws.{base64_is_read_back, base64_is_of_what_it_gives}
use Rattle.picky_text.proofs.Base64Laws.{decoded_is_bytes}
use Rattle.picky_kv_words.specs.Field.{IsOfRow}
use Rattle.picky_kv_words.specs.ValueFields.{comment_field, base64_field, hex_field}
use Rattle.picky_kv_words.specs.Values.{comment_row, base64_row}
use Rattle.picky_kv_words.specs.Values.{hex_row, hex_decoded, padded_base64, IsHexDigit, IsLowerDigit}
use Rattle.picky_kv_words.specs.Values.{AreHexPairs}

pub comment_field_is : IsOfRow comment_field comment_row
unfolding comment_field
comment_field_is = record {
  reads = λ text v _. (λ is. cc is, λ is. ap Some is);
  writes = λ _. refl;
  gives = λ _. refl;
  expects = refl;
}

-- ---- base64

pub base64_is_padded : (bytes : List ℕ) → base64_of bytes ≡ padded_base64 bytes
unfolding base64_of
base64_is_padded bytes = refl

pub base64_field_is : IsOfRow base64_field base64_row
unfolding base64_field
base64_field_is = record {
  reads = λ text bytes small. (
    λ is. (
      decoded_is_bytes text bytes small is,
      base64_is_of_what_it_gives text bytes small is ∙ base64_is_padded bytes,
    ),
    λ is. ap decoded (is.1 ∙ sym (base64_is_padded bytes)) ∙ base64_is_read_back bytes is.0,
  );
  writes = base64_is_padded;
  gives = λ _. refl;
  expects = refl;
}

-- ---- hex

-- a digit of the two tables, as a test
abbrev is_found : ℕ → Option ℕ → Bool
is_found c None = true
is_found c (Some v) =
    nat_lt v 16 && (c == slice_index lower_digits v || c == slice_index upper_digits v)

-- each of the first n is
abbrev all_found : ℕ → Bool
all_found zero = true
all_found (suc n) = is_found n (hex_digit_value n) && all_found n

all_found-at : (n k : ℕ) → all_found n ≡ true → k < n → is_found k (hex_digit_value k) ≡ true
all_found-at zero k all lt = absurd (omega arith)
all_found-at (suc n) k all lt =
    let parts = and_parts (is_found n (hex_digit_value n)) (all_found n) all in
    elim (cases_lt k n) [
      | inl below ↦ all_found-at n k parts.1 below
      | inr top ↦
          let e : k ≡ n = omega arith in
          rw e parts.0
    ]

found_is : (c v : ℕ) → is_found c (Some v) ≡ true → IsHexDigit v c
found_is c v test =
    let parts = and_parts (nat_lt v 16) _ test in
    let low : v < 16 = grind (arith, nat_tests, parts.0) in
    elim (cases_Bool (c == slice_index lower_digits v)) [
      | inl lower ↦ inl (low, eqb-true c (slice_index lower_digits v) lower)
      | inr other ↦
          let upper : (c == slice_index upper_digits v) ≡ true = rw other at parts.1 in
          inr (low, eqb-true c (slice_index upper_digits v) upper)
    ]

small_digit : (c v : ℕ) → hex_digit_value c ≡ Some v → c < 103
small_digit c v is = elim (cases_lt c 103) [
  | inl small ↦ small
  | inr big ↦ absurd (grind (arith, nat_tests, is))
]

digit_is : (c v : ℕ) → hex_digit_value c ≡ Some v → IsHexDigit v c
digit_is c v is =
    let test = all_found-at 103 c refl (small_digit c v is) in
    found_is c v (rw is at test)

digit_reads : (v c : ℕ) → IsHexDigit v c → hex_digit_value c ≡ Some v
digit_reads v c is = elim is [
  | inl lower ↦ rw lower.1 (IsDigits-lower_digits v lower.0)
  | inr upper ↦ rw upper.1 (IsDigits-upper_digits v upper.0)
]

-- a step that is Ok
bind_ok : {A B : Type 0} (r : Result A FromHexError) (f : A → Result B FromHexError) (y : B)
    → (r >>= f) ≡ Ok y → (x : A) × (r ≡ Ok x) × (f x ≡ Ok y)
bind_ok (Ok x) f y h = (x, refl, h)
bind_ok (Err e) f y h = cc h

value_is : (c i v : ℕ) (o : Option ℕ) → digit_or_error c i o ≡ Ok v → o ≡ Some v
value_is c i v (Some w) is = ap Some (cc is)
value_is c i v None is = cc is

pairs_are : (i : ℕ) (text bytes : List ℕ) → decode_pairs i text ≡ Ok bytes
    → AreHexPairs IsHexDigit text bytes
unfolding decode_pairs
pairs_are i [] bytes is =
    let nil : [] ≡ bytes = cc is in
    subst (AreHexPairs IsHexDigit []) nil tt
pairs_are i (c ∷ []) bytes is = cc is
pairs_are i (high ∷ low ∷ text) bytes is =
    let whole = bind_ok (pair_value high low i) _ bytes is in
    let byte : ℕ = whole.0 in
    let more = bind_ok (decode_pairs (i + 2) text) _ bytes whole.2 in
    let joined : byte ∷ more.0 ≡ bytes = cc more.2 in
    let first = bind_ok (value_at high i) _ byte whole.1 in
    let second = bind_ok (value_at low (i + 1)) _ byte first.2 in
    let h : ℕ = first.0 in
    let l : ℕ = second.0 in
    let sum : h * 16 + l ≡ byte = cc second.2 in
    let high_is = digit_is high h (value_is high i h (hex_digit_value high) first.1) in
    let low_is = digit_is low l (value_is low (i + 1) l (hex_digit_value low) second.1) in
    let h_small : h < 16 = elim high_is [ inl x ↦ x.0 | inr x ↦ x.0 ] in
    let l_small : l < 16 = elim low_is [ inl x ↦ x.0 | inr x ↦ x.0 ] in
    let h_of : h ≡ byte / 16 = omega arith in
    let l_of : l ≡ byte % 16 = omega arith in
    subst (AreHexPairs IsHexDigit (high ∷ low ∷ text)) joined (
      subst (λ d. IsHexDigit d high) h_of high_is,
      subst (λ d. IsHexDigit d low) l_of low_is,
      pairs_are (i + 2) text more.0 more.1,
    )

pairs_read : (i : ℕ) (text bytes : List ℕ) → AreHexPairs IsHexDigit text bytes
    → decode_pairs i text ≡ Ok bytes
unfolding decode_pairs
pairs_read i [] [] are = refl
pairs_read i [] (b ∷ bytes) are = absurd are
pairs_read i (c ∷ []) bytes are = absurd are
pairs_read i (high ∷ low ∷ text) [] are = absurd are
pairs_read i (high ∷ low ∷ text) (b ∷ bytes) are =
    let ha : value_at high i ≡ Ok (b / 16) =
    ap (digit_or_error high i) (digit_reads (b / 16) high are.0) in
    let hb : value_at low (i + 1) ≡ Ok (b % 16) =
    ap (digit_or_error low (i + 1)) (digit_reads (b % 16) low are.1) in
    let pair : pair_value high low i ≡ Ok (b / 16 * 16 + b % 16) = rw (ha, hb) refl in
    let ih = pairs_read (i + 2) text bytes are.2 in
    let whole : b / 16 * 16 + b % 16 ≡ b = omega arith in
    decode_pairs-ok_pair i high low _ text pair
    ∙ ap (cons_byte (b / 16 * 16 + b % 16)) ih ∙ ap (λ (v : ℕ). Ok (v ∷ bytes)) whole

pairs_are_even : (text bytes : List ℕ) → AreHexPairs IsHexDigit text bytes → length text % 2 ≡ 0
pairs_are_even [] bytes are = refl
pairs_are_even (c ∷ []) bytes are = absurd are
pairs_are_even (high ∷ low ∷ text) [] are = absurd are
pairs_are_even (high ∷ low ∷ text) (b ∷ bytes) are =
    let even = pairs_are_even text bytes are.2 in omega arith

hex_reads : (text bytes : List ℕ) → AreHexPairs IsHexDigit text bytes
    → hex_decoded text ≡ Some bytes
unfolding hex_decoded
hex_reads text bytes are =
    ap result_ok (decode_of-even text (pairs_are_even text bytes are) ∙ pairs_read 0 text bytes are)

ok_of : {E : Type 0} (answer : Result (List ℕ) E) (bytes : List ℕ) → result_ok answer ≡ Some bytes
    → answer ≡ Ok bytes
ok_of (Ok x) bytes is = ap Ok (cc is)
ok_of (Err e) bytes is = cc is

hex_is : (text bytes : List ℕ) → hex_decoded text ≡ Some bytes → AreHexPairs IsHexDigit text bytes
unfolding hex_decoded
hex_is text bytes reads =
    let ok = ok_of (decode_of text) bytes reads in
    elim (cases_Bool (length text % 2 == 1)) [
      | inl odd ↦ cc (rw odd at ok)
      | inr even ↦ pairs_are 0 text bytes (rw even at ok)
    ]

pub hex_field_is : IsOfRow hex_field hex_row
unfolding hex_field
hex_field_is = record {
  reads = λ text bytes _. (hex_is text bytes, hex_reads text bytes);
  writes = λ _. refl;
  gives = λ _. refl;
  expects = refl;
}

-- what is written has digits in lower case
pub hex_is_lower : (bytes : List ℕ) → IsBytes bytes
    → AreHexPairs IsLowerDigit (encode_lower bytes) bytes
unfolding encode_with
hex_is_lower [] small = tt
hex_is_lower (b ∷ bytes) small =
    let fits : b < 256 = small 0 in
    ((omega arith, refl), (omega arith, refl), hex_is_lower bytes (λ i. small (suc i)))
