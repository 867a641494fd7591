-- A sample key's comment: a short text of one line, with no white space at its end.
use Rattle.std.proofs.Common.{◌≡◌, ◌≢◌, ◌∙◌, ◌≤◌, ◌<◌, ◌^◌, ℕ, zero, suc, false, List, [], ◌∷◌, length, slice_index, codes, refl, ap, arith}
use Rattle.std.specs.Char.{is_whitespace}
use Rattle.std.specs.Fmt.{decimal}
use Rattle.std.specs.List.{AllByRecursion}
use Rattle.std.specs.Str.{IsAscii, drop_trailing_whitespace, encode_utf8_all, trim_end}
use Rattle.std.specs.Str.Parse.{AllDigits}
use Rattle.std.proofs.lemmas.Bool.Decides.{nat_tests}
use Rattle.std.proofs.lemmas.Fmt.{IsAscii-decimal, decimal_is_IsNumeral, length-decimal-le}
use Rattle.std.proofs.lemmas.List.{length-append}
use Rattle.std.proofs.lemmas.Str.{IsAscii-append, IsUtf8-from_ascii, chars-IsAscii, encodes-IsAscii}
use Rattle.picky_wire_base.specs.Numbers.{IsBytes}
use Rattle.picky_text.specs.Lines.{HasNo}
use Rattle.picky_text.proofs.ListLaws.{all_append}
use Rattle.picky_keys.specs.Key.{IsText}
use Rattle.picky_convert.specs.SampleKeys.{comment_at}

-- ---- white space

abbrev HasNoWhite : List ℕ → Type 0
HasNoWhite text = AllByRecursion (λ c. is_whitespace c ≡ false) text

nothing_is_dropped : (cs : List ℕ) → HasNoWhite cs → drop_trailing_whitespace cs ≡ cs
nothing_is_dropped [] none = refl
nothing_is_dropped (c ∷ cs) none = rw (none.0, nothing_is_dropped cs none.1) refl

nothing_is_trimmed : (text : List ℕ) → IsAscii text → HasNoWhite text → trim_end text ≡ text
unfolding trim_end
nothing_is_trimmed text ascii none =
    ap (λ cs. encode_utf8_all (drop_trailing_whitespace cs)) (chars-IsAscii text ascii)
    ∙ ap encode_utf8_all (nothing_is_dropped text none) ∙ encodes-IsAscii text ascii

-- ---- digits

-- what holds of each digit holds of a number's decimal
digits_all : (P : ℕ → Type 0) → ((c : ℕ) → 48 ≤ c → c ≤ 57 → P c) → (digits : List ℕ) → AllDigits 10 digits → AllByRecursion P digits
digits_all P each [] all = tt
digits_all P each (c ∷ cs) all =
    (each c (grind (arith, nat_tests, all.0)) (grind (arith, nat_tests, all.0)), digits_all P each cs all.1)

digit_is_not_white : (c : ℕ) → 48 ≤ c → c ≤ 57 → is_whitespace c ≡ false
digit_is_not_white c low high = grind (arith, nat_tests)

-- what holds of the letters and of each digit holds of a comment
comment_all : (P : ℕ → Type 0) → AllByRecursion P (codes "key-") → ((c : ℕ) → 48 ≤ c → c ≤ 57 → P c) → (i : ℕ) → i < 2 ^ 16
    → AllByRecursion P (comment_at i)
unfolding comment_at
comment_all P letters each i small =
    all_append P (codes "key-") (decimal i) letters (digits_all P each (decimal i) (decimal_is_IsNumeral i (omega arith)).0.1)

pub comment_has_no_cr : (i : ℕ) → i < 2 ^ 16 → HasNo 13 (comment_at i)
comment_has_no_cr i small =
    comment_all (λ c. c ≢ 13) (λ is. cc is, (λ is. cc is, (λ is. cc is, (λ is. cc is, tt)))) (λ c low high is. omega arith) i small

pub comment_has_no_lf : (i : ℕ) → i < 2 ^ 16 → HasNo 10 (comment_at i)
comment_has_no_lf i small =
    comment_all (λ c. c ≢ 10) (λ is. cc is, (λ is. cc is, (λ is. cc is, (λ is. cc is, tt)))) (λ c low high is. omega arith) i small

comment_has_no_white : (i : ℕ) → i < 2 ^ 16 → HasNoWhite (comment_at i)
comment_has_no_white i small =
    comment_all (λ c. is_whitespace c ≡ false) (refl, (refl, (refl, (refl, tt)))) digit_is_not_white i small

-- ---- ASCII

letters_are_ascii : IsAscii (codes "key-")
letters_are_ascii zero = omega arith
letters_are_ascii (suc zero) = omega arith
letters_are_ascii (suc (suc zero)) = omega arith
letters_are_ascii (suc (suc (suc zero))) = omega arith
letters_are_ascii (suc (suc (suc (suc k)))) = omega arith

comment_is_ascii : (i : ℕ) → i < 2 ^ 16 → IsAscii (comment_at i)
unfolding comment_at
comment_is_ascii i small = IsAscii-append (codes "key-") (decimal i) letters_are_ascii (IsAscii-decimal i (omega arith))

pub comment_is_trimmed : (i : ℕ) → i < 2 ^ 16 → trim_end (comment_at i) ≡ comment_at i
comment_is_trimmed i small = nothing_is_trimmed (comment_at i) (comment_is_ascii i small) (comment_has_no_white i small)

-- ---- its size

pub comment_size : (i : ℕ) → i < 2 ^ 16 → length (comment_at i) ≤ 9
unfolding comment_at
comment_size i small =
    omega (arith, length-append (codes "key-") (decimal i), length-decimal-le 5 i (omega arith) (omega arith) (omega arith))

ascii_is_bytes : (text : List ℕ) → IsAscii text → IsBytes text
ascii_is_bytes text ascii k = let small : slice_index text k < 128 = ascii k in omega arith

pub comment_is_text : (i : ℕ) → i < 2 ^ 16 → IsText (comment_at i)
comment_is_text i small =
    let ascii = comment_is_ascii i small in
    record {
      string = record { bytes = ascii_is_bytes (comment_at i) ascii; short = omega (arith, comment_size i small) };
      utf8 = IsUtf8-from_ascii (comment_at i) ascii;
    }
