-- Types whose values have one literal each, by their rows.
use Rattle.std.specs.Prelude.{◌≡◌, ◌==◌, ◌||◌, ℕ, Bool, true, false, not, List, [], ◌∷◌, if◌then◌else◌}
use Rattle.std.specs.Prelude.{Option, Some, None, nat_eq, refl}
use Rattle.std.specs.List.{list_all}
use Rattle.std.specs.Cmp.Lexicographic.{pointwise}
use Rattle.picky_kv_words.specs.Field.{Field, FieldRow, IsOfRow}

-- a type of literals: its name, which refusals give, each value's literal, and what is expected
pub record LiteralRow (A : Type 0) : Type 0 where
  pub name : List ℕ
  pub literal : A → List ℕ
  pub expected : List ℕ

-- a type of one value, whose literal is what is expected
abbrev pub single_row : {A : Type 0} → List ℕ → List ℕ → LiteralRow A
single_row name literal = record { name = name; literal = λ _. literal; expected = literal }

-- a text stands for the value whose literal it is
abbrev pub literals_of : {A : Type 0} → LiteralRow A → FieldRow A
literals_of row = record {
  StandsFor = λ text v. text ≡ row.literal v;
  written = row.literal;
  is_big = λ _. false;
  expected = row.expected;
}

-- a type of literals is the row's
pub record IsOfLiterals {A : Type 0} (field : Field A) (literal : A → List ℕ) (name : List ℕ)
    (row : LiteralRow A) : Type 0 where
  pub texts : IsOfRow field (literals_of row)
  pub literals : (v : A) → literal v ≡ row.literal v
  pub named : name ≡ row.name

-- the first of the values whose literal the text is
abbrev pub value_named : {A : Type 0} → (A → List ℕ) → List A → List ℕ → Option A
value_named literal [] text = None
value_named literal (v ∷ vs) text =
    if pointwise nat_eq text (literal v) then Some v else value_named literal vs text

-- each value is the one that its literal names
abbrev pub AreNamed : {A : Type 0} → (A → List ℕ) → List A → Type 0
AreNamed literal values = (v : _) → value_named literal values (literal v) ≡ Some v

-- the type of these values, each written as its literal
abbrev pub literal_field : {A : Type 0} (row : LiteralRow A) (values : List A)
    → AreNamed row.literal values → Field A
literal_field row values named = record {
  meaning = value_named row.literal values;
  is_big = λ _. false;
  expected = row.expected;
  spelling = row.literal;
  fits = λ _. Unit {0};
  short = λ _ _. refl;
  read_back = λ v _. named v;
}

-- a type of one value: its row, what texts mean, and that value
pub record Word (A : Type 0) : Type 1 where
  pub row : LiteralRow A
  pub field : Field A
  pub one : A
  pub only : (v : A) → v ≡ one

-- these
abbrev pub word_of : {A : Type 0} → LiteralRow A → Field A → (one : A) → ((v : A) → v ≡ one) → Word A
word_of row field one only = record { row = row; field = field; one = one; only = only }

-- this literal alone stands for the value, and is what is written and expected
pub record IsLiteralOf {A : Type 0} (word : Word A) (literal : List ℕ) : Type 0 where
  pub reads : (text : List ℕ)
      → word.field.meaning text ≡ value_named (λ _. literal) (word.one ∷ []) text
  pub gives : (v : A) → word.field.is_big v ≡ false
  pub expects : word.field.expected ≡ literal
  pub writes : (v : A) → word.field.spelling v ≡ literal
  pub fits : (v : A) → word.field.fits v

-- no colon, CR and LF stand in the text
abbrev pub is_plain : List ℕ → Bool
is_plain text = list_all (λ b. not (b == 58 || b == 13 || b == 10)) text

-- each value of the type is written so
abbrev pub IsPlain : {A : Type 0} → Field A → Type 0
IsPlain field = (v : _) → is_plain (field.spelling v) ≡ true
