-- A type of literals is its row's.
use Rattle.std.proofs.Common.{◌≡◌, ℕ, List, [], ◌∷◌, Some, refl, ◌∙◌, ap, inl, inr}
use Rattle.std.proofs.lemmas.Bool.{cases_Bool}
use Rattle.std.proofs.lemmas.Slice.Eq.{bytes_eq-Decides}
use Rattle.std.specs.Prelude.{nat_eq}
use Rattle.std.specs.Cmp.Lexicographic.{pointwise}
use Rattle.picky_kv_words.specs.Field.{IsOfRow}
use Rattle.picky_kv_words.specs.Literal.{LiteralRow, IsOfLiterals, AreNamed, value_named}
use Rattle.picky_kv_words.specs.Literal.{literal_field, literals_of}

-- a text is the literal of the value that it names
named_is : {A : Type 0} (literal : A → List ℕ) (values : List A) (text : List ℕ) (v : A)
    → value_named literal values text ≡ Some v → text ≡ literal v
named_is literal [] text v is = cc is
named_is literal (w ∷ ws) text v is = elim (cases_Bool (pointwise nat_eq text (literal w))) [
  | inl same ↦
      let first : Some w ≡ Some v = rw same at is in
      let one : w ≡ v = cc first in
      (bytes_eq-Decides text (literal w)).0 same ∙ ap literal one
  | inr other ↦ named_is literal ws text v (rw other at is)
]

pub literal_field_is : {A : Type 0} (row : LiteralRow A) (values : List A)
    (named : AreNamed row.literal values)
    → IsOfRow (literal_field row values named) (literals_of row)
literal_field_is row values named = record {
  reads = λ text v _. (named_is row.literal values text v, λ is. rw is (named v));
  writes = λ _. refl;
  gives = λ _. refl;
  expects = refl;
}

pub literal_type_is : {A : Type 0} (row : LiteralRow A) (values : List A)
    (named : AreNamed row.literal values)
    → IsOfLiterals (literal_field row values named) row.literal row.name row
literal_type_is row values named = record {
  texts = literal_field_is row values named;
  literals = λ _. refl;
  named = refl;
}
