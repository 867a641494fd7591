-- A text says an option exactly where it is one.
use Rattle.std.proofs.Common.{◌≡◌, ◌≢◌, ℕ, suc, ◌-◌, ◌<◌, ◌==◌, ◌&&◌, true, false, not, List, [], ◌∷◌, ◌++◌, length, slice_index}
use Rattle.std.proofs.Common.{Option, Some, None, refl, sym, ◌∙◌, ap, arith, inl, inr, subst}
use Rattle.std.proofs.lemmas.Bool.{and_from, and_parts, cases_Bool, eq-eqb, eqb-false, eqb-true, ne_eqb, not-true, or_right}
use Rattle.std.proofs.lemmas.List.{append-nil, append_assoc}
use Rattle.std.specs.List.{AllByRecursion, after_first, before_first, list_all, list_any}
use Rattle.std.specs.Option.{option_map}
use Rattle.picky_text.proofs.ListLaws.{all_append, cut_at_first, uncut}
use Rattle.picky_authorized.specs.declared.auth_option.AuthOption.{AuthOption}
use Rattle.picky_authorized.specs.OptionText.{IsClosed, IsOptionText, escaped, is_equals, is_name, is_name_byte, auth_option_named, option_in}
use Rattle.picky_authorized.specs.OptionText.{quoted_text_in, escaped_value, value_in, value_spelled}
use Rattle.picky_authorized.proofs.ValueLemmas.{behind, text_goes}

-- ---- options of a type

-- what was mapped to a value
pub mapped : {A B : Type 0} (f : A → B) (o : Option A) (y : B) → option_map f o ≡ Some y → (x : A) × (o ≡ Some x) × (f x ≡ y)
mapped f None y is = absurd (cc is)
mapped f (Some x) y is = (x, refl, cc is)

-- ---- a value that ends in no backslash

nil_closed : IsClosed (Some [])
nil_closed same = omega (arith, same)

pub closed_behind : (b : ℕ) (value : List ℕ) → IsClosed (Some value) → (value ≡ [] → b ≢ 92) → IsClosed (Some (b ∷ value))
closed_behind b [] closed other = other refl
closed_behind b (c ∷ value) closed other =
    let long : length (b ∷ c ∷ value) - 1 ≡ suc (length value) = omega arith in
    let short : length (c ∷ value) - 1 ≡ length value = omega arith in
    λ same. closed (ap (slice_index (c ∷ value)) short ∙ sym (ap (slice_index (b ∷ c ∷ value)) long) ∙ same)

pub closed_shorter : (b : ℕ) (value : List ℕ) → IsClosed (Some (b ∷ value)) → IsClosed (Some value)
closed_shorter b [] closed = nil_closed
closed_shorter b (c ∷ value) closed =
    let long : length (b ∷ c ∷ value) - 1 ≡ suc (length value) = omega arith in
    let short : length (c ∷ value) - 1 ≡ length value = omega arith in
    λ same. closed (ap (slice_index (b ∷ c ∷ value)) long ∙ sym (ap (slice_index (c ∷ value)) short) ∙ same)

-- ---- a value between its quotes

escaped_plain : (b : ℕ) (value : List ℕ) → (b == 34) ≡ false → escaped (b ∷ value) ≡ b ∷ escaped value
escaped_plain b value other = rw other refl

-- is spelled so
pub text_spelled : (text value : List ℕ) → escaped_value text ≡ Some value
    → (text ≡ escaped value ++ 34 ∷ []) × IsClosed (Some value)
unfolding escaped_value
text_spelled [] value is = absurd (cc is)
text_spelled (b ∷ []) value is = elim (cases_Bool (b == 34)) [
  | inl quote ↦
      let none : [] ≡ value = cc (rw quote at is) in (
        subst (λ v. b ∷ [] ≡ escaped v ++ 34 ∷ []) none (ap (λ c. c ∷ []) (eqb-true b 34 quote)),
        subst (λ v. IsClosed (Some v)) none nil_closed,
      )
  | inr other ↦ absurd (cc (rw other at is))
]
text_spelled (b ∷ c ∷ bs) value is = elim (cases_Bool (b == 92 && c == 34)) [
  | inl quote ↦
      let rest = mapped (λ v. 34 ∷ v) (escaped_value bs) value (rw quote at is) in
      let more = text_spelled bs rest.0 rest.1 in
      let parts = and_parts (b == 92) (c == 34) quote in
      let whole : b ∷ c ∷ bs ≡ 92 ∷ 34 ∷ (escaped rest.0 ++ 34 ∷ []) =
      ap (λ d. d ∷ c ∷ bs) (eqb-true b 92 parts.0) ∙ ap (λ d. 92 ∷ d ∷ bs) (eqb-true c 34 parts.1)
      ∙ ap (λ l. 92 ∷ 34 ∷ l) more.0 in (
        subst (λ v. b ∷ c ∷ bs ≡ escaped v ++ 34 ∷ []) rest.2 whole,
        subst (λ v. IsClosed (Some v)) rest.2 (closed_behind 34 rest.0 more.1 (λ _ same. omega (arith, same))),
      )
  | inr plain ↦ elim (cases_Bool (b == 34)) [
    | inl end ↦ absurd (cc (rw (plain, end) at is))
    | inr other ↦
        let rest = mapped (λ v. b ∷ v) (escaped_value (c ∷ bs)) value (rw (plain, other) at is) in
        let more = text_spelled (c ∷ bs) rest.0 rest.1 in
        let whole : b ∷ c ∷ bs ≡ escaped (b ∷ rest.0) ++ 34 ∷ [] =
        ap (λ l. b ∷ l) more.0 ∙ ap (λ e. e ++ 34 ∷ []) (sym (escaped_plain b rest.0 other)) in
        let last : rest.0 ≡ [] → b ≢ 92 =
        λ none backslash.
        let ends : c ∷ bs ≡ 34 ∷ [] = more.0 ∙ ap (λ v. escaped v ++ 34 ∷ []) none in
        let quote : c ≡ 34 = cc ends in
        cc (plain, and_from (b == 92) (c == 34) (eq-eqb b 92 backslash) (eq-eqb c 34 quote)) in (
          subst (λ v. b ∷ c ∷ bs ≡ escaped v ++ 34 ∷ []) rest.2 whole,
          subst (λ v. IsClosed (Some v)) rest.2 (closed_behind b rest.0 more.1 last),
        )
  ]
]

-- and so spelled is read
first_escaped : (c : ℕ) (value more : List ℕ)
    → (d : ℕ) × (ds : List ℕ) × (escaped (c ∷ value) ++ more ≡ d ∷ ds) × (d ≢ 34)
first_escaped c value more = elim (cases_Bool (c == 34)) [
  | inl quote ↦ (92, 34 ∷ escaped value ++ more, rw quote refl, λ same. omega (arith, same))
  | inr other ↦ (c, escaped value ++ more, rw other refl, eqb-false c 34 other)
]

pub text_read : (value : List ℕ) → IsClosed (Some value) → escaped_value (escaped value ++ 34 ∷ []) ≡ Some value
unfolding escaped_value
text_read [] closed = refl
text_read (b ∷ []) closed = elim (cases_Bool (b == 34)) [
  | inl quote ↦ rw quote (ap (λ c. Some (c ∷ [])) (sym (eqb-true b 34 quote)))
  | inr other ↦ rw other (text_goes b 34 [] (eqb-false b 34 other) (λ backslash. absurd (closed backslash)))
]
text_read (b ∷ c ∷ value) closed = elim (cases_Bool (b == 34)) [
  | inl quote ↦
      rw quote
      (ap (option_map (λ v. 34 ∷ v)) (text_read (c ∷ value) (closed_shorter b (c ∷ value) closed))
      ∙ ap (λ d. Some (d ∷ c ∷ value)) (sym (eqb-true b 34 quote)))
  | inr other ↦
      let first = first_escaped c value (34 ∷ []) in
      rw other
      (ap (λ l. escaped_value (b ∷ l)) first.2 ∙ text_goes b first.0 first.1 (eqb-false b 34 other) (λ _. first.3)
      ∙ ap (λ l. behind (b ∷ []) (escaped_value l)) (sym first.2)
      ∙ ap (behind (b ∷ [])) (text_read (c ∷ value) (closed_shorter b (c ∷ value) closed)))
]

-- ---- names

all_letters : (name : List ℕ) → list_all is_name_byte name ≡ true → AllByRecursion (λ b. is_name_byte b ≡ true) name
all_letters [] is = tt
all_letters (b ∷ name) is =
    let parts = and_parts (is_name_byte b) (list_all is_name_byte name) is in
    (parts.0, all_letters name parts.1)

letters_all : (name : List ℕ) → AllByRecursion (λ b. is_name_byte b ≡ true) name → list_all is_name_byte name ≡ true
letters_all [] each = refl
letters_all (b ∷ name) each =
    and_from (is_name_byte b) (list_all is_name_byte name) each.0 (letters_all name each.1)

is_some_name : (name : List ℕ) → 0 < length name → AllByRecursion (λ b. is_name_byte b ≡ true) name → is_name name ≡ true
is_some_name name some each =
    let long : (length name == 0) ≡ false = ne_eqb (length name) 0 (λ same. omega (arith, same, some)) in
    rw long (letters_all name each)

some_of_name : (name : List ℕ) → is_name name ≡ true → 0 < length name
some_of_name name is =
    let parts = and_parts (not (length name == 0)) (list_all is_name_byte name) is in
    let other : length name ≢ 0 = eqb-false (length name) 0 (not-true (length name == 0) parts.0) in
    omega (arith, other)

-- no letter is an equals sign
pub no_equals : (name : List ℕ) → AllByRecursion (λ b. is_name_byte b ≡ true) name
    → AllByRecursion (λ b. is_equals b ≡ false) name
no_equals [] each = tt
no_equals (b ∷ name) each = (
  elim (cases_Bool (b == 61)) [
    | inl equals ↦
        let P : ℕ → Type 0 = λ c. is_name_byte c ≡ true in
        absurd (cc (subst P (eqb-true b 61 equals) each.0))
    | inr other ↦ other
  ],
  no_equals name each.1,
)

-- ---- an equals sign

-- the first parts the text
equals_cut : (text : List ℕ) → list_any is_equals text ≡ true
    → text ≡ before_first is_equals text ++ 61 ∷ after_first is_equals text
equals_cut text is = go [] text tt is
  where
    go : (front rest : List ℕ) → AllByRecursion (λ b. is_equals b ≡ false) front → list_any is_equals rest ≡ true
        → front ++ rest ≡ before_first is_equals (front ++ rest) ++ 61 ∷ after_first is_equals (front ++ rest)
    go front [] none is = absurd (cc is)
    go front (b ∷ rest) none is = elim (cases_Bool (is_equals b)) [
      | inl equals ↦
          let cut = cut_at_first is_equals front b rest none equals in
          ap (λ c. front ++ c ∷ rest) (eqb-true b 61 equals)
          ∙ ap (λ l. l ++ 61 ∷ rest) (sym cut.before)
          ∙ ap (λ l. before_first is_equals (front ++ b ∷ rest) ++ 61 ∷ l) (sym cut.after)
      | inr other ↦
          let P : List ℕ → Type 0 = λ text. text ≡ before_first is_equals text ++ 61 ∷ after_first is_equals text in
          subst P (append_assoc front (b ∷ []) rest)
          (go (front ++ b ∷ []) rest (all_append (λ c. is_equals c ≡ false) front (b ∷ []) none (other, tt)) (rw other at is))
    ]

none_equals : (text : List ℕ) → list_any is_equals text ≡ false → AllByRecursion (λ b. is_equals b ≡ false) text
none_equals [] is = tt
none_equals (b ∷ text) is = elim (cases_Bool (is_equals b)) [
  | inl equals ↦ absurd (cc (rw equals at is))
  | inr other ↦ (other, none_equals text (rw other at is))
]

equals_none : (text : List ℕ) → AllByRecursion (λ b. is_equals b ≡ false) text → list_any is_equals text ≡ false
equals_none [] none = refl
equals_none (b ∷ text) none = rw none.0 (equals_none text none.1)

equals_there : (front rest : List ℕ) → list_any is_equals (front ++ 61 ∷ rest) ≡ true
equals_there [] rest = refl
equals_there (b ∷ front) rest = or_right (is_equals b) (list_any is_equals (front ++ 61 ∷ rest)) (equals_there front rest)

-- ---- an option

quoted_says : (text value : List ℕ) → quoted_text_in text ≡ Some value
    → (text ≡ 34 ∷ (escaped value ++ 34 ∷ [])) × IsClosed (Some value)
quoted_says [] value is = absurd (cc is)
quoted_says (b ∷ bs) value is = elim (cases_Bool (b == 34)) [
  | inl quote ↦
      let more = text_spelled bs value (rw quote at is) in
      (ap (λ c. c ∷ bs) (eqb-true b 34 quote) ∙ ap (λ l. 34 ∷ l) more.0, more.1)
  | inr other ↦ absurd (cc (rw other at is))
]

value_says : (text : List ℕ) (value : Option (List ℕ)) → value_in text ≡ Some value
    → (text ≡ before_first is_equals text ++ value_spelled value) × IsClosed value
value_says text value is = elim (cases_Bool (list_any is_equals text)) [
  | inl there ↦
      let said = mapped Some (quoted_text_in (after_first is_equals text)) value (rw there at is) in
      let quoted = quoted_says (after_first is_equals text) said.0 said.1 in
      let whole : text ≡ before_first is_equals text ++ value_spelled (Some said.0) =
      equals_cut text there ∙ ap (λ l. before_first is_equals text ++ 61 ∷ l) quoted.0 in (
        subst (λ v. text ≡ before_first is_equals text ++ value_spelled v) said.2 whole,
        subst IsClosed said.2 quoted.1,
      )
  | inr none ↦
      let bare : None ≡ value = cc (rw none at is) in
      let front : before_first is_equals text ≡ text = (uncut is_equals text (none_equals text none)).0 in (
        subst (λ v. text ≡ before_first is_equals text ++ value_spelled v) bare
            (sym (append-nil (before_first is_equals text) ∙ front)),
        subst IsClosed bare tt,
      )
]

pub option_says : (text : List ℕ) (o : AuthOption) → option_in text ≡ Some o → IsOptionText text o
unfolding option_in
option_says text o is =
    let name : List ℕ = before_first is_equals text in
    elim (cases_Bool (is_name name)) [
      | inl letters ↦
          let said = mapped (auth_option_named name) (value_in text) o (rw letters at is) in
          let value = value_says text said.0 said.1 in
          let of_named : IsOptionText text (auth_option_named name said.0) = record {
            name = name;
            some = some_of_name name letters;
            letters = all_letters name (and_parts (not (length name == 0)) (list_all is_name_byte name) letters).1;
            lower = refl;
            spelled = value.0;
            closed = value.1;
          } in
          subst (IsOptionText text) said.2 of_named
      | inr other ↦ absurd (cc (rw other at is))
    ]

-- so it is with each spelling of one
value_is : (name : List ℕ) (value : Option (List ℕ)) → AllByRecursion (λ b. is_name_byte b ≡ true) name → IsClosed value
    → (before_first is_equals (name ++ value_spelled value) ≡ name) × (value_in (name ++ value_spelled value) ≡ Some value)
value_is name None each closed =
    let none = no_equals name each in
    let bare : name ++ [] ≡ name = append-nil name in (
      ap (before_first is_equals) bare ∙ (uncut is_equals name none).0,
      ap value_in bare ∙ rw (equals_none name none) refl,
    )
value_is name (Some value) each closed =
    let rest : List ℕ = 34 ∷ (escaped value ++ 34 ∷ []) in
    let cut = cut_at_first is_equals name 61 rest (no_equals name each) refl in (
      cut.before,
      rw (equals_there name rest, cut.after) (ap (option_map Some) (text_read value closed)),
    )

pub option_is : (text : List ℕ) (o : AuthOption) → IsOptionText text o → option_in text ≡ Some o
unfolding option_in
option_is text o is =
    let value = value_is is.name o.value is.letters is.closed in
    let made : auth_option_named is.name o.value ≡ o = λ i. record { name = sym is.lower i; value = o.value } in
    ap option_in is.spelled
    ∙ rw (value.0, is_some_name is.name is.some is.letters, value.1) (ap Some made)
