-- What a typed key or value of a line stands for, after PuTTY's manual, Appendix C.
use Rattle.std.specs.Prelude.{◌≡◌, ◌↔◌, ◌^◌, ◌≤◌, ◌<◌, ℕ, Bool, false, List, length, nat_lt, if◌then◌else◌}
use Rattle.std.specs.Prelude.{Option, Some, None, Result, Ok, Err}
use Rattle.picky_wire_base.specs.Numbers.{IsBytes}
use Rattle.picky_wire_base.specs.declared.error.SizeError.{SizeError}
use Rattle.picky_wire_base.specs.declared.error.SizeError.TheVariants as size
use Rattle.picky_kv_words.specs.declared.error.PpkValueError.{PpkValueError}
use Rattle.picky_kv_words.specs.declared.error.PpkValueError.TheVariants.{Parsing, TooLong}

-- a type of keys or values: what its texts mean, which values are too big to be given, what a
-- refusal says was expected, how values are written, and what is known of each value
pub record Field (A : Type 0) : Type 1 where
  pub meaning : List ℕ → Option A
  pub is_big : A → Bool
  pub expected : List ℕ
  pub spelling : A → List ℕ
  pub fits : A → Type 0
  pub short : (v : A) → fits v → is_big v ≡ false
  pub read_back : (v : A) → fits v → meaning (spelling v) ≡ Some v

-- a row of the format: which texts stand for a value, which one is written, which values are too
-- big to be given, and what a refusal says was expected
pub record FieldRow (A : Type 0) : Type 1 where
  pub StandsFor : List ℕ → A → Type 0
  pub written : A → List ℕ
  pub is_big : A → Bool
  pub expected : List ℕ

-- a type of keys or values is the row's: it reads the texts that stand for a value, and no other
pub record IsOfRow {A : Type 0} (field : Field A) (row : FieldRow A) : Type 0 where
  pub reads : (text : List ℕ) (v : A) → IsBytes text
      → field.meaning text ≡ Some v ↔ row.StandsFor text v
  pub writes : (v : A) → field.spelling v ≡ row.written v
  pub gives : (v : A) → field.is_big v ≡ row.is_big v
  pub expects : field.expected ≡ row.expected

-- a text that stands for no value is refused with itself, where it is short enough for a refusal
abbrev pub value_refusal : List ℕ → List ℕ → PpkValueError
value_refusal expected text =
    if nat_lt (length text) (2 ^ 32) then Parsing (record { expected = expected; actual = text })
    else TooLong

-- the answer for a text with this meaning
abbrev pub judged_value : {A : Type 0} → (A → Bool) → List ℕ → List ℕ → Option A → Result A PpkValueError
judged_value is_big expected text (Some v) = if is_big v then Err TooLong else Ok v
judged_value is_big expected text None = Err (value_refusal expected text)

-- the answer for a text
abbrev pub field_value : {A : Type 0} → Field A → List ℕ → Result A PpkValueError
field_value field text = judged_value field.is_big field.expected text (field.meaning text)

-- the text is what was asked for, which is too long exactly where it has 2^32 bytes or more
abbrev pub IsSpelling : Result (List ℕ) SizeError → List ℕ → Type 0
IsSpelling (Ok text) spelling = (text ≡ spelling) × (length spelling < 2 ^ 32)
IsSpelling (Err size.TooLong) spelling = 2 ^ 32 ≤ length spelling
IsSpelling (Err size.NoMemory) spelling = Unit {0}
