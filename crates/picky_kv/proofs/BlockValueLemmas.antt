-- A value of a block is that of the bytes whose base64 the lines are, joined.
use Rattle.std.proofs.Common.{◌≡◌, ◌↔◌, ◌<◌, ◌^◌, ℕ, false, List, length, Option, Some, None, refl, sym, ap}
use Rattle.std.proofs.Common.{◌∙◌, arith, inl, inr}
use Rattle.std.specs.Prelude.{Ok}
use Rattle.std.proofs.lemmas.Bool.{cases_Bool}
use Rattle.std.proofs.lemmas.Bool.Decides.{nat_tests}
use Rattle.picky_wire_base.specs.Numbers.{IsBytes}
use Rattle.picky_text.specs.Base64.{base64_of}
use Rattle.picky_kv_words.specs.Field.{Field, field_value, judged_value}
use Rattle.picky_kv_words.specs.Values.{is_long}
use Rattle.picky_kv_words.specs.carried.Values.{short_is_not_long}
use Rattle.picky_kv_words.specs.Blocks.{IsOfBlocks, IsBlockText}
use Rattle.picky_kv.specs.Context.{in_context}

-- the base64 of few bytes gives their value
pub block_gives : {A : Type 0} (field : Field A) (made : List ℕ → A) (text : List ℕ) (v : A)
    → IsOfBlocks field made → IsBlockText made text v → field_value field text ≡ Ok v
block_gives field made text v of_blocks is =
    let reads : field.meaning text ≡ Some (made is.bytes) =
    ap field.meaning is.text_is ∙ of_blocks.block is.bytes is.small in
    let small : field.is_big (made is.bytes) ≡ false =
    of_blocks.sized is.bytes ∙ short_is_not_long is.bytes is.short in
    ap (judged_value field.is_big field.expected text) reads ∙ rw small (ap Ok (sym is.value_is))

-- a value that is read, by what its text means
record IsRead {A : Type 0} (field : Field A) (text : List ℕ) (v : A) : Type 0 where
  means : field.meaning text ≡ Some v
  few : field.is_big v ≡ false

read_by : {A : Type 0} (field : Field A) (text : List ℕ) (meaning : Option A) (v : A)
    → field.meaning text ≡ meaning → judged_value field.is_big field.expected text meaning ≡ Ok v
    → IsRead field text v
read_by field text None v means is = cc is
read_by field text (Some w) v means is = elim (cases_Bool (field.is_big w)) [
  | inl big ↦ cc (rw big at is)
  | inr few ↦
      let same : w ≡ v = cc (rw few at is) in
      record { means = means ∙ ap Some same; few = ap field.is_big (sym same) ∙ few }
]

long_is_big : (bytes : List ℕ) → is_long bytes ≡ false → length bytes < 2 ^ 32
long_is_big bytes short = grind (arith, nat_tests, short)

-- and no other text does
pub given_is_block : {A : Type 0} (field : Field A) (made : List ℕ → A) (text : List ℕ) (v : A)
    → IsOfBlocks field made → IsBytes text → field_value field text ≡ Ok v → IsBlockText made text v
given_is_block field made text v of_blocks small is =
    let read = read_by field text (field.meaning text) v refl is in
    let found = of_blocks.no_other text v small read.means in
    let few = sym (of_blocks.sized found.bytes) ∙ ap field.is_big (sym found.value_is) ∙ read.few in
    record {
      bytes = found.bytes;
      small = found.small;
      short = long_is_big found.bytes few;
      text_is = found.text_is;
      value_is = found.value_is;
    }

pub block_values : {A : Type 0} (field : Field A) (made : List ℕ → A) → IsOfBlocks field made
    → (text : List ℕ) (v : A) → IsBytes text → field_value field text ≡ Ok v ↔ IsBlockText made text v
block_values field made of_blocks text v small =
    (given_is_block field made text v of_blocks small, block_gives field made text v of_blocks)

-- what is decoded gives the value of the lines
pub decoded_gives : {A : Type 0} (field : Field A) (made : List ℕ → A) (context text bytes : List ℕ) (v : A)
    → IsOfBlocks field made → text ≡ base64_of bytes → IsBytes bytes → length bytes < 2 ^ 32
    → v ≡ made bytes → in_context context (field_value field text) ≡ Ok v
decoded_gives field made context text bytes v of_blocks text_is small short value_is =
    let is : IsBlockText made text v = record {
      bytes = bytes;
      small = small;
      short = short;
      text_is = text_is;
      value_is = value_is;
    } in
    ap (in_context context) (block_gives field made text v of_blocks is)
