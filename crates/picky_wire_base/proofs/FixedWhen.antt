-- When the fields are refused of which the layout fixes the value, the length or the names.
use Rattle.std.specs.Prelude.{◌≡◌, ◌≢◌, ◌↔◌, List, ℕ, ◌<◌, ◌≤◌, length, take, drop, ◌==◌, ◌⊎◌, IsUtf8, Option, Some, None, ok_or, Ok, Err}
use Rattle.std.specs.Int.{w32, from_be_bytes}
use Rattle.std.specs.Str.{bytes_eq}
use Rattle.std.specs.Cmp.{unsigned_Decides}
use Rattle.std.proofs.Common.{sym, ◌∙◌, ap, subst, refl, inl, inr}
use Rattle.std.proofs.lemmas.Slice.Eq.{bytes_eq-Decides}
use Rattle.picky_wire_base.specs.Flaw.{Flaw, Short, NotUtf8, Flawed, Reason, Magic, Length, Name, Number}
use Rattle.picky_wire_base.specs.Wire.{byte_array, uint32, string, text, of_length, equal_to}
use Rattle.picky_wire_base.specs.Fixed.{raw, sized, is_number, fixed_uint32}
use Rattle.picky_wire_base.specs.Short.{EndsInString}
use Rattle.picky_wire_base.proofs.Strings.{text_reads}
use Rattle.picky_wire_base.specs.Table.{Table, find_entry}
use Rattle.picky_wire_base.specs.Entry.{entry}
use Rattle.picky_wire_base.proofs.Table.{none_is_found}
use Rattle.picky_wire_base.specs.carried.Table.{key_is_found}
use Rattle.picky_wire_base.specs.Named.{named}
use Rattle.picky_wire_base.specs.When.{HoldsString}
use Rattle.picky_wire_base.proofs.Narrowed.{place_cases, place_flawed_when, place_value_when, allowed_refused, allowed_refuses, same_why}
use Rattle.picky_wire_base.proofs.When.{byte_array_are_short, byte_array_are_read, byte_array_read_front, uint32_is_short}
use Rattle.picky_wire_base.proofs.When.{uint32_is_read, uint32_read_front, string_is_short, text_is_short, text_is_not_utf8}
use Rattle.picky_wire_base.proofs.When.{text_only, text_read_string}

-- One fact is the other's, and that one a third's.
through : {A B C : Type 0} → (A → B) × (B → A) → (B → C) × (C → B) → (A → C) × (C → A)
through first second = (λ a. second.0 (first.0 a), λ c. first.1 (second.1 c))

-- ---- byte[n] of one fixed value

-- Bytes that are refused differ from the fixed ones.
raw_differs : (i : ℕ) (fixed a : List ℕ) (r : Reason)
    → (equal_to (λ _. (i, Magic)) fixed).decide a ≡ Err r → (a ≢ fixed) × (r ≡ (i, Magic))
raw_differs i fixed a r refused =
    allowed_refused (λ b. b ≡ fixed) (λ b. bytes_eq b fixed) (λ _. (i, Magic))
    (λ b. bytes_eq-Decides b fixed) a r refused

-- That is no flaw of the kind.
raw_has_no_flaw : (i : ℕ) (fixed a : List ℕ) (flaw : Flaw)
    → (equal_to {E = Reason} (λ _. (i, Magic)) fixed).decide a ≡ Err (i, Flawed flaw) → ⊥
raw_has_no_flaw i fixed a flaw is =
    let differs = raw_differs i fixed a (i, Flawed flaw) is in
    let why = same_why (i, Flawed flaw) (i, Magic) differs.1 in cc why

-- Fixed bytes are short exactly where fewer are left.
pub raw_is_short : (i : ℕ) (fixed bytes : List ℕ)
    → (raw i fixed).read bytes ≡ Err (i, Flawed Short) ↔ length bytes < length fixed
unfolding raw
raw_is_short i fixed bytes =
    let n = length fixed in
    through
    (place_flawed_when i (byte_array n) (equal_to (λ _. (i, Magic)) fixed) (raw_has_no_flaw i fixed)
    bytes Short)
    ((byte_array_are_short n).short bytes)

-- They differ exactly where as many are left and aren't the fixed ones.
pub raw_is_other : (i : ℕ) (fixed bytes : List ℕ)
    → (raw i fixed).read bytes ≡ Err (i, Magic)
    ↔ ((length fixed ≤ length bytes) × (take (length fixed) bytes ≢ fixed))
unfolding raw
raw_is_other i fixed bytes =
    let n = length fixed in
    let when = place_value_when i (byte_array n) (equal_to (λ _. (i, Magic)) fixed) Magic
    (λ flaw is. cc is) bytes in (
      λ refused.
          let w = when.0 refused in
          let front = byte_array_read_front n bytes w.value w.rest w.whole in
          let differs = raw_differs i fixed w.value (i, Magic) w.refused in
          (front.0, λ same. differs.0 (sym front.1 ∙ same)),
      λ (enough, differs). when.1 (record {
        value = take n bytes;
        rest = drop n bytes;
        whole = byte_array_are_read n bytes enough;
        refused = allowed_refuses (λ b. b ≡ fixed) (λ b. bytes_eq b fixed) (λ _. (i, Magic))
            (λ b. bytes_eq-Decides b fixed) (take n bytes) differs;
      }),
    )

-- They are refused for nothing else.
pub raw_only : (i : ℕ) (fixed bytes : List ℕ) (r : Reason) → (raw i fixed).read bytes ≡ Err r
    → (r ≡ (i, Flawed Short)) ⊎ (r ≡ (i, Magic))
unfolding raw
raw_only i fixed bytes r refused =
    let n = length fixed in
    elim (place_cases i (byte_array n) (equal_to (λ _. (i, Magic)) fixed) bytes r refused) [
      | inl f ↦
          let short = (byte_array_are_short n).only bytes f.flaw f.refused in
          inl (f.is ∙ ap (λ g. (i, Flawed g)) short)
      | inr w ↦ inr (raw_differs i fixed w.value r w.refused).1
    ]

-- ---- a string of one fixed length

-- A string that is refused has another length.
sized_differs : (i n : ℕ) (a : List ℕ) (r : Reason)
    → (of_length (i, Length) n).decide a ≡ Err r → (length a ≢ n) × (r ≡ (i, Length))
sized_differs i n a r refused =
    allowed_refused (λ b. length b ≡ n) (λ b. length b == n) (λ _. (i, Length))
    (λ b. unsigned_Decides (length b) n) a r refused

-- That is no flaw of the kind.
sized_has_no_flaw : (i n : ℕ) (a : List ℕ) (flaw : Flaw)
    → (of_length {E = Reason} (i, Length) n).decide a ≡ Err (i, Flawed flaw) → ⊥
sized_has_no_flaw i n a flaw is =
    let differs = sized_differs i n a (i, Flawed flaw) is in
    let why = same_why (i, Flawed flaw) (i, Length) differs.1 in cc why

-- A string of one length is short exactly where the bytes end inside it.
pub sized_is_short : (i n : ℕ) (bytes : List ℕ)
    → (sized i n).read bytes ≡ Err (i, Flawed Short) ↔ EndsInString bytes
sized_is_short i n bytes =
    through
    (place_flawed_when i string (of_length (i, Length) n) (sized_has_no_flaw i n) bytes Short)
    (string_is_short.short bytes)

-- Its length is refused exactly where it is whole and has another.
pub sized_is_other : (i n : ℕ) (bytes : List ℕ)
    → (sized i n).read bytes ≡ Err (i, Length) ↔ HoldsString bytes (λ v. length v ≢ n)
sized_is_other i n bytes =
    let when = place_value_when i string (of_length (i, Length) n) Length
    (λ flaw is. cc is) bytes in (
      λ refused.
          let w = when.0 refused in
          (w.value, w.rest, w.whole, (sized_differs i n w.value (i, Length) w.refused).0),
      λ (v, rest, is, differs). when.1 (record {
        value = v;
        rest = rest;
        whole = is;
        refused = allowed_refuses (λ b. length b ≡ n) (λ b. length b == n) (λ _. (i, Length))
            (λ b. unsigned_Decides (length b) n) v differs;
      }),
    )

-- It is refused for nothing else.
pub sized_only : (i n : ℕ) (bytes : List ℕ) (r : Reason) → (sized i n).read bytes ≡ Err r
    → (r ≡ (i, Flawed Short)) ⊎ (r ≡ (i, Length))
sized_only i n bytes r refused =
    elim (place_cases i string (of_length (i, Length) n) bytes r refused) [
      | inl f ↦
          let short = string_is_short.only bytes f.flaw f.refused in
          inl (f.is ∙ ap (λ g. (i, Flawed g)) short)
      | inr w ↦ inr (sized_differs i n w.value r w.refused).1
    ]

-- ---- a number that is fixed

-- A number that is refused is another one.
number_differs : (i n m : ℕ) (r : Reason)
    → (is_number (λ k. (i, Number k)) n).decide m ≡ Err r → (m ≢ n) × (r ≡ (i, Number m))
number_differs i n m r refused =
    allowed_refused (λ k. k ≡ n) (λ k. k == n) (λ k. (i, Number k)) (λ k. unsigned_Decides k n) m r
    refused

-- That is no flaw of the kind.
number_has_no_flaw : (i n m : ℕ) (flaw : Flaw)
    → (is_number {E = Reason} (λ k. (i, Number k)) n).decide m ≡ Err (i, Flawed flaw) → ⊥
number_has_no_flaw i n m flaw is =
    let differs = number_differs i n m (i, Flawed flaw) is in
    let why = same_why (i, Flawed flaw) (i, Number m) differs.1 in cc why

-- A number is short exactly where fewer than four bytes are left.
pub fixed_uint32_is_short : (i n : ℕ) (bytes : List ℕ)
    → (fixed_uint32 i n).read bytes ≡ Err (i, Flawed Short) ↔ length bytes < 4
fixed_uint32_is_short i n bytes =
    through
    (place_flawed_when i uint32 (is_number (λ k. (i, Number k)) n) (number_has_no_flaw i n) bytes
    Short)
    (uint32_is_short.short bytes)

-- It is refused by its value exactly where four bytes are left, whose number is another.
pub fixed_uint32_is_other : (i n m : ℕ) (bytes : List ℕ)
    → (fixed_uint32 i n).read bytes ≡ Err (i, Number m)
    ↔ ((4 ≤ length bytes) × (from_be_bytes w32 (take 4 bytes) ≡ m) × (m ≢ n))
fixed_uint32_is_other i n m bytes =
    let when = place_value_when i uint32 (is_number (λ k. (i, Number k)) n) (Number m)
    (λ flaw is. cc is) bytes in (
      λ refused.
          let w = when.0 refused in
          let front = uint32_read_front bytes w.value w.rest w.whole in
          let differs = number_differs i n w.value (i, Number m) w.refused in
          let why = same_why (i, Number m) (i, Number w.value) differs.1 in
          let same : m ≡ w.value = cc why in
          (front.0, front.1 ∙ sym same, subst (λ k. k ≢ n) (sym same) differs.0),
      λ (enough, is, differs). when.1 (record {
        value = m;
        rest = drop 4 bytes;
        whole = uint32_is_read bytes enough ∙ ap (λ k. Ok (k, drop 4 bytes)) is;
        refused = allowed_refuses (λ k. k ≡ n) (λ k. k == n) (λ k. (i, Number k))
            (λ k. unsigned_Decides k n) m differs;
      }),
    )

-- It is refused for nothing else.
pub fixed_uint32_only : (i n : ℕ) (bytes : List ℕ) (r : Reason)
    → (fixed_uint32 i n).read bytes ≡ Err r
    → (r ≡ (i, Flawed Short)) ⊎ ((m : ℕ) × (r ≡ (i, Number m)))
fixed_uint32_only i n bytes r refused =
    elim (place_cases i uint32 (is_number (λ k. (i, Number k)) n) bytes r refused) [
      | inl f ↦
          let short = uint32_is_short.only bytes f.flaw f.refused in
          inl (f.is ∙ ap (λ g. (i, Flawed g)) short)
      | inr w ↦ inr (w.value, (number_differs i n w.value r w.refused).1)
    ]

-- ---- a name of a table

-- Where none is found, the reason is the outcome's.
ok_or_err : {E A : Type 0} (o : Option A) (e f : E) → ok_or o e ≡ Err f → (o ≡ None) × (f ≡ e)
ok_or_err None e f same = (refl, cc same)
ok_or_err (Some a) e f same = cc same

-- A name that is refused is the key of no entry.
name_is_unknown : {A : Type 0} (i : ℕ) (T : Table (List ℕ) A) (n : List ℕ) (r : Reason)
    → ok_or (find_entry T n) (i, Name n) ≡ Err r
    → ((a : A) → T.key a ≢ n) × (r ≡ (i, Name n))
name_is_unknown i T n r refused =
    let none = ok_or_err (find_entry T n) (i, Name n) r refused in
    (λ a has. let both = sym (key_is_found T n a has) ∙ none.0 in cc both, none.1)

-- That is no flaw of the kind.
name_has_no_flaw : {A : Type 0} (i : ℕ) (T : Table (List ℕ) A) (n : List ℕ) (flaw : Flaw)
    → ok_or {E = Reason} (find_entry T n) (i, Name n) ≡ Err (i, Flawed flaw) → ⊥
name_has_no_flaw i T n flaw is =
    let unknown = name_is_unknown i T n (i, Flawed flaw) is in
    let why = same_why (i, Flawed flaw) (i, Name n) unknown.1 in cc why

-- The flaws of a name are those of its text.
named_flawed : {A : Type 0} (i : ℕ) (T : Table (List ℕ) A) (bytes : List ℕ) (flaw : Flaw)
    → (named i T).read bytes ≡ Err (i, Flawed flaw) ↔ text.read bytes ≡ Err flaw
named_flawed i T bytes flaw =
    place_flawed_when i text (entry (λ k. (i, Name k)) T) (name_has_no_flaw i T) bytes flaw

-- A name is short exactly where the bytes end inside its string.
pub named_is_short : {A : Type 0} (i : ℕ) (T : Table (List ℕ) A) (bytes : List ℕ)
    → (named i T).read bytes ≡ Err (i, Flawed Short) ↔ EndsInString bytes
named_is_short i T bytes = through (named_flawed i T bytes Short) (text_is_short bytes)

-- It is no UTF-8 exactly where its string is whole and isn't.
pub named_is_not_utf8 : {A : Type 0} (i : ℕ) (T : Table (List ℕ) A) (bytes : List ℕ)
    → (named i T).read bytes ≡ Err (i, Flawed NotUtf8)
    ↔ HoldsString bytes (λ v. IsUtf8 v → ⊥)
named_is_not_utf8 i T bytes = through (named_flawed i T bytes NotUtf8) (text_is_not_utf8 bytes)

-- It is unknown exactly where its string is whole and UTF-8, and no entry's key.
pub named_is_unknown : {A : Type 0} (i : ℕ) (T : Table (List ℕ) A) (n bytes : List ℕ)
    → (named i T).read bytes ≡ Err (i, Name n)
    ↔ HoldsString bytes (λ v. (v ≡ n) × IsUtf8 v × ((a : A) → T.key a ≢ v))
named_is_unknown i T n bytes =
    let when = place_value_when i text (entry (λ k. (i, Name k)) T) (Name n)
    (λ flaw is. cc is) bytes in (
      λ refused.
          let w = when.0 refused in
          let held = text_read_string bytes w.value w.rest w.whole in
          let none = name_is_unknown i T w.value (i, Name n) w.refused in
          let why = same_why (i, Name n) (i, Name w.value) none.1 in
          let same : w.value ≡ n = cc why in
          (w.value, w.rest, held.0, (same, held.1, none.0)),
      λ (v, rest, is, (same, utf8, none)). when.1 (record {
        value = v;
        rest = rest;
        whole = text_reads bytes v rest is utf8;
        refused =
            ap (λ o. ok_or o (i, Name v)) (none_is_found T v none)
            ∙ ap (λ k. Err (i, Name k)) same;
      }),
    )

-- It is refused for nothing else.
pub named_only : {A : Type 0} (i : ℕ) (T : Table (List ℕ) A) (bytes : List ℕ) (r : Reason)
    → (named i T).read bytes ≡ Err r
    → (r ≡ (i, Flawed Short)) ⊎ (r ≡ (i, Flawed NotUtf8)) ⊎ ((n : List ℕ) × (r ≡ (i, Name n)))
named_only i T bytes r refused =
    elim (place_cases i text (entry (λ k. (i, Name k)) T) bytes r refused) [
      | inl f ↦ elim (text_only bytes f.flaw f.refused) [
        | inl short ↦ inl (f.is ∙ ap (λ g. (i, Flawed g)) short)
        | inr other ↦ inr (inl (f.is ∙ ap (λ g. (i, Flawed g)) other))
      ]
      | inr w ↦ inr (inr (w.value, (name_is_unknown i T w.value r w.refused).1))
    ]
