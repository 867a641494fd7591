-- Values of text and bytes: a comment, base64 as RFC 4648, section 4, and hex as its section 8.
use Rattle.std.specs.Prelude.{◌≡◌, ℕ, ◌^◌, ◌<◌, Bool, List, [], length, nat_lt, not, ◌⊎◌, ◌∷◌, ◌/◌, ◌%◌, true}
use Rattle.std.specs.Prelude.{slice_index, Option, codes}
use Rattle.base64.specs.Rfc4648.{encode}
use Rattle.std.specs.Result.{result_ok}
use Rattle.hex.specs.Hex.{encode_lower, decode_of}
use Rattle.picky_wire_base.specs.Numbers.{IsBytes}
use Rattle.picky_kv_words.specs.Field.{FieldRow}

-- there are 2^32 bytes or more
abbrev pub is_long : List ℕ → Bool
is_long bytes = not (nat_lt (length bytes) (2 ^ 32))

-- the row of comments: each text stands for itself, and none is refused
abbrev pub comment_row : FieldRow (List ℕ)
comment_row =
    record { StandsFor = λ text v. text ≡ v; written = λ v. v; is_big = is_long; expected = [] }

-- the bytes in base64, padded by `=`, which is 61
abbrev pub padded_base64 : List ℕ → List ℕ
padded_base64 bytes =
    encode (codes "ABCDEFGHIJKLMNOPQRSTUVWXYZabcdefghijklmnopqrstuvwxyz0123456789+/") 61 true bytes

-- the row of base64: the one text of the bytes stands for them
abbrev pub base64_row : FieldRow (List ℕ)
base64_row = record {
  StandsFor = λ text bytes. IsBytes bytes × (text ≡ padded_base64 bytes);
  written = padded_base64;
  is_big = is_long;
  expected = codes "<valid base64 data>";
}

-- a digit of hex in lower case
abbrev pub IsLowerDigit : ℕ → ℕ → Type 0
IsLowerDigit d c = (d < 16) × (c ≡ slice_index (codes "0123456789abcdef") d)

-- a digit of hex in either case
abbrev pub IsHexDigit : ℕ → ℕ → Type 0
IsHexDigit d c =
    IsLowerDigit d c ⊎ ((d < 16) × (c ≡ slice_index (codes "0123456789ABCDEF") d))

-- two such digits for each byte, its high four bits first
abbrev pub AreHexPairs : (ℕ → ℕ → Type 0) → List ℕ → List ℕ → Type 0
AreHexPairs Is [] [] = Unit {0}
AreHexPairs Is [] (b ∷ bytes) = ⊥
AreHexPairs Is (high ∷ []) bytes = ⊥
AreHexPairs Is (high ∷ low ∷ text) [] = ⊥
AreHexPairs Is (high ∷ low ∷ text) (b ∷ bytes) =
    Is (b / 16) high × Is (b % 16) low × AreHexPairs Is text bytes

-- the row of hex: two digits a byte in either case stand for the bytes
abbrev pub hex_row : FieldRow (List ℕ)
hex_row = record {
  StandsFor = AreHexPairs IsHexDigit;
  written = encode_lower;
  is_big = is_long;
  expected = codes "<valid hex data>";
}

-- fewer than 2^32 bytes
abbrev pub AreFewBytes : List ℕ → Type 0
AreFewBytes bytes = (length bytes < 2 ^ 32) × IsBytes bytes

-- the bytes whose hex text this is, in either case
unfoldable pub hex_decoded : List ℕ → Option (List ℕ)
hex_decoded text = result_ok (decode_of text)
