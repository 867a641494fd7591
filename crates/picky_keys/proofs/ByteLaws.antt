-- Which lists are bytes, words and text: fronts, joins, strings, numbers and names.
use Rattle.std.specs.Prelude.{◌≡◌, Bool, true, false, if◌then◌else◌, List, [], ◌∷◌, ℕ, zero, suc, ◌+◌, ◌-◌}
use Rattle.std.specs.Prelude.{◌++◌, ◌<◌, nat_lt, length, slice_index, ◌==◌, IsUtf8}
use Rattle.std.specs.Int.{w32, to_be_bytes}
use Rattle.std.specs.List.{list_all, list_any, position_or_len}
use Rattle.std.proofs.Common.{sym, subst, refl, arith, inl, inr}
use Rattle.std.proofs.lemmas.Bool.{and_parts, cases_lt, cases_Bool, le-ltb, lt-ltb, ltb-true, eq-eqb}
use Rattle.std.proofs.lemmas.List.{get_or_append_left, get_or-append-add, get_or_past}
use Rattle.std.proofs.lemmas.List.Sums.{AllPass-from_list_all}
use lib.Utf8.{encode, encodes, scalar, scalars, scalar_cases}
use Rattle.picky_wire_base.specs.Wire.{string_of}
use Rattle.picky_wire_base.specs.Mpint.{mpint_of}
use Rattle.picky_wire_base.proofs.MpintLaws.{mpint_of_high, mpint_of_low}
use Rattle.picky_wire_base.specs.Numbers.{IsBytes}
use Rattle.picky_wire_base.proofs.Numbers.{EachByte, back_bytes, each_by_place, front_bytes}
use Rattle.picky_text.specs.Lines.{HasNo}
use Rattle.picky_text.specs.Words.{ends_word, first_word, behind_word, IsWord}
use Rattle.picky_keys.specs.declared.curve.EcCurve.{EcCurve}
use Rattle.picky_keys.specs.declared.curve.EcCurve.TheVariants.{NistP256, NistP384, NistP521}
use Rattle.picky_keys.specs.declared.curve.EdAlgorithm.TheVariants.{Ed25519}
use Rattle.picky_keys.specs.declared.kind.KeyKind.{KeyKind}
use Rattle.picky_keys.specs.declared.kind.KeyKind.TheVariants as kinds
use Rattle.picky_keys.specs.KeyNames.{kind_name, curve_key_type, ed_key_type, curve_identifier}

-- ---- bytes

pub no_bytes : IsBytes []
no_bytes i = omega arith

-- What is made of bytes is bytes.
pub bytes_joined : (x y : List ℕ) → IsBytes x → IsBytes y → IsBytes (x ++ y)
bytes_joined x y front back i = elim (cases_lt i (length x)) [
  | inl inside ↦ subst (λ b. b < 256) (sym (get_or_append_left x y 0 i inside)) (front i)
  | inr past ↦
      let place : length x + (i - length x) ≡ i = omega arith in
      subst (λ k. slice_index (x ++ y) k < 256) place
      (subst (λ b. b < 256) (sym (get_or-append-add x y (i - length x) 0)) (back (i - length x)))
]

pub bytes_first : (b : ℕ) (bytes : List ℕ) → b < 256 → IsBytes bytes → IsBytes (b ∷ bytes)
bytes_first b bytes small each zero = small
bytes_first b bytes small each (suc i) = each i

pub number_bytes : (n : ℕ) → IsBytes (to_be_bytes w32 n)
number_bytes n zero = omega arith
number_bytes n (suc zero) = omega arith
number_bytes n (suc (suc zero)) = omega arith
number_bytes n (suc (suc (suc zero))) = omega arith
number_bytes n (suc (suc (suc (suc i)))) = omega arith

pub string_bytes_each : (bytes : List ℕ) → IsBytes bytes → IsBytes (string_of bytes)
unfolding string_of
string_bytes_each bytes each = bytes_joined (to_be_bytes w32 (length bytes)) bytes (number_bytes (length bytes)) each

pub mpint_bytes_each : (v : List ℕ) → IsBytes v → IsBytes (mpint_of v)
mpint_bytes_each v each = elim (cases_lt (slice_index v 0) 128) [
  | inl low ↦ subst IsBytes (sym (mpint_of_low v low)) (string_bytes_each v each)
  | inr high ↦ subst IsBytes (sym (mpint_of_high v high))
      (string_bytes_each (0 ∷ v) (bytes_first 0 v (omega arith) each))
]

pub bytes_by_test : (bytes : List ℕ) → list_all (λ b. nat_lt b 256) bytes ≡ true → IsBytes bytes
bytes_by_test bytes all i = elim (cases_lt i (length bytes)) [
  | inl inside ↦ ltb-true _ 256 (AllPass-from_list_all (λ b. nat_lt b 256) bytes all i 0 inside)
  | inr past ↦ subst (λ b. b < 256) (sym (get_or_past bytes i 0 past)) (omega arith)
]

-- ---- the words of bytes

pub word_is_bytes : (text : List ℕ) → IsBytes text → IsBytes (first_word text)
unfolding first_word
word_is_bytes text each = front_bytes (position_or_len ends_word text) text each

either_bytes : (b : Bool) (x y : List ℕ) → IsBytes x → IsBytes y → IsBytes (if b then x else y)
either_bytes true x y left right = left
either_bytes false x y left right = right

pub after_bytes : (text : List ℕ) → IsBytes text → IsBytes (behind_word text)
unfolding behind_word
after_bytes text each =
    either_bytes (slice_index text (position_or_len ends_word text) == 32) _ []
    (back_bytes (position_or_len ends_word text + 1) text each) no_bytes

-- ---- names

-- A byte stands nowhere, by a test.
pub no_by_test : (b : ℕ) (bytes : List ℕ) → list_any (λ c. c == b) bytes ≡ false → HasNo b bytes
no_by_test b [] none = tt
no_by_test b (c ∷ bytes) none = elim (cases_Bool (c == b)) [
  | inl same ↦ let found : true ≡ false = rw same at none in cc found
  | inr other ↦ (λ is. cc (other, eq-eqb c b is), no_by_test b bytes (rw other at none))
]

-- A word by its tests.
word_by_test : (bytes : List ℕ) → list_any (λ c. c == 32) bytes ≡ false
    → list_any (λ c. c == 13) bytes ≡ false → list_any (λ c. c == 10) bytes ≡ false → IsWord bytes
word_by_test bytes space cr lf = (no_by_test 32 bytes space, no_by_test 13 bytes cr, no_by_test 10 bytes lf)

-- Each name is a word of bytes.
pub name_is_word : (kind : KeyKind) → IsWord (kind_name kind)
unfolding kind_name curve_key_type ed_key_type
name_is_word kinds.Rsa = word_by_test (kind_name kinds.Rsa) refl refl refl
name_is_word (kinds.Ec NistP256) = word_by_test (kind_name (kinds.Ec NistP256)) refl refl refl
name_is_word (kinds.Ec NistP384) = word_by_test (kind_name (kinds.Ec NistP384)) refl refl refl
name_is_word (kinds.Ec NistP521) = word_by_test (kind_name (kinds.Ec NistP521)) refl refl refl
name_is_word (kinds.Ed Ed25519) = word_by_test (kind_name (kinds.Ed Ed25519)) refl refl refl
name_is_word kinds.SkEcdsaSha2NistP256 = word_by_test (kind_name kinds.SkEcdsaSha2NistP256) refl refl refl
name_is_word kinds.SkEd25519 = word_by_test (kind_name kinds.SkEd25519) refl refl refl

pub name_bytes : (kind : KeyKind) → IsBytes (kind_name kind)
unfolding kind_name curve_key_type ed_key_type
name_bytes kinds.Rsa = bytes_by_test (kind_name kinds.Rsa) refl
name_bytes (kinds.Ec NistP256) = bytes_by_test (kind_name (kinds.Ec NistP256)) refl
name_bytes (kinds.Ec NistP384) = bytes_by_test (kind_name (kinds.Ec NistP384)) refl
name_bytes (kinds.Ec NistP521) = bytes_by_test (kind_name (kinds.Ec NistP521)) refl
name_bytes (kinds.Ed Ed25519) = bytes_by_test (kind_name (kinds.Ed Ed25519)) refl
name_bytes kinds.SkEcdsaSha2NistP256 = bytes_by_test (kind_name kinds.SkEcdsaSha2NistP256) refl
name_bytes kinds.SkEd25519 = bytes_by_test (kind_name kinds.SkEd25519) refl

pub identifier_bytes : (curve : EcCurve) → IsBytes (curve_identifier curve)
unfolding curve_identifier
identifier_bytes NistP256 = bytes_by_test (curve_identifier NistP256) refl
identifier_bytes NistP384 = bytes_by_test (curve_identifier NistP384) refl
identifier_bytes NistP521 = bytes_by_test (curve_identifier NistP521) refl

-- ---- texts in UTF-8 are bytes

scalar_below : (c : ℕ) → scalar c ≡ true → c < 1114112
scalar_below c is = elim (scalar_cases c is) [ inl low ↦ omega arith | inr high ↦ high.1 ]

encode_bytes : (c : ℕ) → scalar c ≡ true → EachByte (encode c)
unfolding encode
encode_bytes c is =
    let top = scalar_below c is in
    elim (cases_lt c 128) [
      | inl one ↦ rw (lt-ltb c 128 one) (omega arith, tt)
      | inr two ↦ elim (cases_lt c 2048) [
        | inl below ↦ rw (le-ltb c 128 two, lt-ltb c 2048 below) (omega arith, (omega arith, tt))
        | inr three ↦ elim (cases_lt c 65536) [
          | inl under ↦ rw (le-ltb c 128 two, le-ltb c 2048 three, lt-ltb c 65536 under) (omega arith, (omega arith, (omega arith, tt)))
          | inr four ↦ rw (le-ltb c 128 two, le-ltb c 2048 three, le-ltb c 65536 four)
              (omega arith, (omega arith, (omega arith, (omega arith, tt))))
        ]
      ]
    ]

encodes_bytes : (cs : List ℕ) → scalars cs ≡ true → IsBytes (encodes cs)
encodes_bytes [] is = no_bytes
encodes_bytes (c ∷ cs) is =
    let parts = and_parts (scalar c) (scalars cs) is in
    bytes_joined (encode c) (encodes cs) (each_by_place (encode c) (encode_bytes c parts.0)) (encodes_bytes cs parts.1)

pub utf8_is_bytes : (text : List ℕ) → IsUtf8 text → IsBytes text
utf8_is_bytes text utf8 = subst IsBytes utf8.1.1 (encodes_bytes utf8.0 utf8.1.0)
