-- The types of text and bytes, as fields.
use Rattle.std.specs.Prelude.{ℕ, ◌^◌, ◌<◌, List, length, refl, Some}
use Rattle.hex.specs.Hex.{encode_lower}
use Rattle.picky_text.specs.Base64.{base64_of, decoded}
use Rattle.picky_text.proofs.Base64Laws.{base64_is_read_back}
use Rattle.picky_kv_words.specs.Field.{Field}
use Rattle.picky_kv_words.specs.Values.{is_long, comment_row, base64_row, hex_row, AreFewBytes, hex_decoded}
use Rattle.picky_kv_words.specs.carried.Values.{short_is_not_long, hex_is_read_back}

-- a comment is its text
unfoldable pub comment_field : Field (List ℕ)
comment_field = record {
  meaning = λ text. Some text;
  is_big = is_long;
  expected = comment_row.expected;
  spelling = λ text. text;
  fits = λ text. length text < 2 ^ 32;
  short = short_is_not_long;
  read_back = λ _ _. refl;
}

-- bytes in base64
unfoldable pub base64_field : Field (List ℕ)
base64_field = record {
  meaning = decoded;
  is_big = is_long;
  expected = base64_row.expected;
  spelling = base64_of;
  fits = AreFewBytes;
  short = λ bytes few. short_is_not_long bytes few.0;
  read_back = λ bytes few. base64_is_read_back bytes few.1;
}

-- bytes in hex, written in lower case
unfoldable pub hex_field : Field (List ℕ)
hex_field = record {
  meaning = hex_decoded;
  is_big = is_long;
  expected = hex_row.expected;
  spelling = encode_lower;
  fits = AreFewBytes;
  short = λ bytes few. short_is_not_long bytes few.0;
  read_back = λ bytes few. hex_is_read_back bytes few.1;
}
