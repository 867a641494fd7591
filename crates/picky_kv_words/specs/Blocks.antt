-- Values of bytes whose text is their base64, in a block of lines.
use Rattle.std.specs.Prelude.{◌≡◌, ◌^◌, ◌<◌, ℕ, List, length, Some}
use Rattle.picky_wire_base.specs.Numbers.{IsBytes}
use Rattle.picky_text.specs.Base64.{base64_of}
use Rattle.picky_kv_words.specs.Field.{Field}
use Rattle.picky_kv_words.specs.Values.{is_long}

-- the text is the base64 of bytes, and the value is theirs
pub record IsTextOf {A : Type 0} (made : List ℕ → A) (text : List ℕ) (v : A) : Type 0 where
  pub bytes : List ℕ
  pub small : IsBytes bytes
  pub text_is : text ≡ base64_of bytes
  pub value_is : v ≡ made bytes

-- the texts of a type of values are the base64 of bytes, and no other; 2^32 bytes are too many
pub record IsOfBlocks {A : Type 0} (field : Field A) (made : List ℕ → A) : Type 0 where
  pub block : (bytes : List ℕ) → IsBytes bytes → field.meaning (base64_of bytes) ≡ Some (made bytes)
  pub no_other : (text : List ℕ) (v : A) → IsBytes text → field.meaning text ≡ Some v
      → IsTextOf made text v
  pub sized : (bytes : List ℕ) → field.is_big (made bytes) ≡ is_long bytes

-- the text is the base64 of fewer than 2^32 bytes, and the value is theirs
pub record IsBlockText {A : Type 0} (made : List ℕ → A) (text : List ℕ) (v : A) : Type 0 where
  pub bytes : List ℕ
  pub small : IsBytes bytes
  pub short : length bytes < 2 ^ 32
  pub text_is : text ≡ base64_of bytes
  pub value_is : v ≡ made bytes
