-- Base64 is the text of its bytes alone.
use Rattle.std.specs.Prelude.{ℕ, List, refl}
use Rattle.picky_text.proofs.Base64Laws.{base64_is_read_back, base64_is_of_what_it_gives, decoded_is_bytes}
use Rattle.picky_kv_words.specs.Blocks.{IsOfBlocks}
use Rattle.picky_kv_words.specs.ValueFields.{base64_field}

-- the type of base64 has its bytes' texts
pub base64_field_is_of_blocks : IsOfBlocks base64_field (λ (bytes : List ℕ). bytes)
unfolding base64_field
base64_field_is_of_blocks = record {
  block = base64_is_read_back;
  no_other = λ text v small reads. record {
    bytes = v;
    small = decoded_is_bytes text v small reads;
    text_is = base64_is_of_what_it_gives text v small reads;
    value_is = refl;
  };
  sized = λ _. refl;
}
