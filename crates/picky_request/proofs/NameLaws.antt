-- The principals of a word.
use Rattle.std.proofs.Common.{◌≡◌, ◌≢◌, ◌↔◌, ℕ, ◌<◌, ◌==◌, ◌&&◌, Bool, true, false, not, List, [], ◌∷◌, ◌++◌, length}
use Rattle.std.proofs.Common.{Option, Some, None, refl, sym, ◌∙◌, ap, inl, inr, subst, arith, if◌then◌else◌}
use Rattle.std.proofs.lemmas.Bool.{cases_Bool, cases_lt, eqb-false, ne_eqb}
use Rattle.std.proofs.lemmas.List.{append_assoc}
use Rattle.std.proofs.lemmas.List.Elements.{All-from_recursion}
use Rattle.std.proofs.lemmas.List.Splits.{slice_split_at, slice_split_none}
use Rattle.std.proofs.lemmas.Slice.Eq.{bytes_eq-Decides}
use Rattle.std.specs.List.{list_all, slice_split}
use Rattle.std.specs.Option.{option_map}
use Rattle.std.specs.Str.{bytes_eq}
use Rattle.picky_text.specs.Lines.{HasNo}
use Rattle.picky_request.specs.Names.{AreNames, ArePrincipals, if_full, is_comma, no_principals, principals_in}
use Rattle.picky_request.proofs.CutLaws.{first_of, none_passes}

-- ---- the names between commas

-- the first, and those behind its comma
pub names_cut : (text name after : List ℕ) → text ≡ name ++ 44 ∷ after → HasNo 44 name
    → slice_split is_comma text ≡ name ∷ slice_split is_comma after
names_cut text name after is none =
    ap (slice_split is_comma) is
    ∙ slice_split_at is_comma name 44 after (All-from_recursion _ name (none_passes 44 name none)) refl

-- a text without a comma is one
pub names_end : (text : List ℕ) → HasNo 44 text → slice_split is_comma text ≡ text ∷ []
names_end text none = slice_split_none is_comma text (All-from_recursion _ text (none_passes 44 text none))

-- the names behind these
abbrev pub onto : (front : List (List ℕ)) → Option (List (List ℕ)) → Option (List (List ℕ))
onto front more = option_map (λ names. front ++ names) more

abbrev is_full : List (List ℕ) → Bool
is_full names = list_all (λ n. not (length n == 0)) names

full_first : (name : List ℕ) (names : List (List ℕ)) → (length name == 0) ≡ false
    → if_full (name ∷ names) ≡ onto (name ∷ []) (if_full names)
full_first name names some =
    ap (λ (b : Bool). if not b && is_full names then Some (name ∷ names) else None) some ∙ by_rest (is_full names)
  where
    by_rest : (b : Bool) → (if b then Some (name ∷ names) else None) ≡ onto (name ∷ []) (if b then Some names else None)
    by_rest true = refl
    by_rest false = refl

full_none : (name : List ℕ) (names : List (List ℕ)) → (length name == 0) ≡ true → if_full (name ∷ names) ≡ None
full_none name names empty = ap (λ (b : Bool). if not b && is_full names then Some (name ∷ names) else None) empty

onto_step : (front : List (List ℕ)) (name : List ℕ) (more : Option (List (List ℕ)))
    → onto front (onto (name ∷ []) more) ≡ onto (front ++ name ∷ []) more
onto_step front name None = refl
onto_step front name (Some names) = ap Some (sym (append_assoc front (name ∷ []) names))

-- ---- names found so far

pub names_go_on : (front : List (List ℕ)) (rest name after text : List ℕ)
    → onto front (if_full (slice_split is_comma rest)) ≡ if_full (slice_split is_comma text)
    → rest ≡ name ++ 44 ∷ after → HasNo 44 name → (length name == 0) ≡ false
    → onto (front ++ name ∷ []) (if_full (slice_split is_comma after)) ≡ if_full (slice_split is_comma text)
names_go_on front rest name after text before is none some =
    sym (onto_step front name (if_full (slice_split is_comma after)))
    ∙ ap (onto front) (sym (full_first name (slice_split is_comma after) some))
    ∙ ap (λ names. onto front (if_full names)) (sym (names_cut rest name after is none))
    ∙ before

pub names_stop : (front : List (List ℕ)) (rest name after text : List ℕ)
    → onto front (if_full (slice_split is_comma rest)) ≡ if_full (slice_split is_comma text)
    → rest ≡ name ++ 44 ∷ after → HasNo 44 name → (length name == 0) ≡ true
    → None ≡ if_full (slice_split is_comma text)
names_stop front rest name after text before is none empty =
    ap (onto front) (sym (full_none name (slice_split is_comma after) empty))
    ∙ ap (λ names. onto front (if_full names)) (sym (names_cut rest name after is none))
    ∙ before

pub names_last : (front : List (List ℕ)) (rest text : List ℕ)
    → onto front (if_full (slice_split is_comma rest)) ≡ if_full (slice_split is_comma text)
    → HasNo 44 rest → (length rest == 0) ≡ false
    → Some (front ++ rest ∷ []) ≡ if_full (slice_split is_comma text)
names_last front rest text before none some =
    ap (onto front) (sym (full_first rest [] some))
    ∙ ap (λ names. onto front (if_full names)) (sym (names_end rest none))
    ∙ before

pub names_last_empty : (front : List (List ℕ)) (rest text : List ℕ)
    → onto front (if_full (slice_split is_comma rest)) ≡ if_full (slice_split is_comma text)
    → HasNo 44 rest → (length rest == 0) ≡ true → None ≡ if_full (slice_split is_comma text)
names_last_empty front rest text before none empty =
    ap (onto front) (sym (full_none rest [] empty))
    ∙ ap (λ names. onto front (if_full names)) (sym (names_end rest none))
    ∙ before

-- ---- names are those between the commas

some_length : (name : List ℕ) → 0 < length name → (length name == 0) ≡ false
some_length name some = ne_eqb (length name) 0 (λ same. omega (arith, same, some))

length_some : (name : List ℕ) → (length name == 0) ≡ false → 0 < length name
length_some name other = elim (cases_lt 0 (length name)) [
  | inl some ↦ some
  | inr none ↦ absurd (eqb-false (length name) 0 other (omega (arith, none)))
]

names_are : (text : List ℕ) (names : List (List ℕ)) → AreNames text names → if_full (slice_split is_comma text) ≡ Some names
names_are text [] are = absurd are
names_are text (name ∷ []) (is, some, none) =
    ap (λ t. if_full (slice_split is_comma t)) is
    ∙ ap if_full (names_end name none)
    ∙ full_first name [] (some_length name some)
names_are text (name ∷ next ∷ more) (rest, is, some, none, others) =
    ap if_full (names_cut text name rest is none)
    ∙ full_first name (slice_split is_comma rest) (some_length name some)
    ∙ ap (onto (name ∷ [])) (names_are rest (next ∷ more) others)

some_same : {A : Type 0} (x y : A) → Some x ≡ Some y → x ≡ y
some_same x y same = cc same

-- the first of them, and those behind it
first_full : (name : List ℕ) (more names : List (List ℕ)) → if_full (name ∷ more) ≡ Some names
    → (0 < length name) × (others : List (List ℕ)) × (if_full more ≡ Some others) × (name ∷ others ≡ names)
first_full name more names is = elim (cases_Bool (length name == 0)) [
  | inl empty ↦
      let never : None ≡ Some names = sym (full_none name more empty) ∙ is in
      absurd (cc never)
  | inr some ↦
      let said = behind (if_full more) (sym (full_first name more some) ∙ is) in
      (length_some name some, said.0, said.1, said.2)
]
  where
    behind : (o : Option (List (List ℕ))) → onto (name ∷ []) o ≡ Some names
        → (others : List (List ℕ)) × (o ≡ Some others) × (name ∷ others ≡ names)
    behind None none = absurd (cc none)
    behind (Some others) said = (others, refl, some_same (name ∷ others) names said)

with_others : (text name rest : List ℕ) (others : List (List ℕ)) → text ≡ name ++ 44 ∷ rest → 0 < length name → HasNo 44 name
    → AreNames rest others → AreNames text (name ∷ others)
with_others text name rest [] is some none are = absurd are
with_others text name rest (next ∷ more) is some none are = (rest, is, some, none, are)

names_say : (text : List ℕ) (names : List (List ℕ)) → if_full (slice_split is_comma text) ≡ Some names → AreNames text names
names_say text [] says = elim (first_of 44 text) [
  | inl none ↦
      let first = first_full text [] [] (sym (ap if_full (names_end text none)) ∙ says) in
      absurd (cc first.3)
  | inr cut ↦
      let first = first_full cut.front (slice_split is_comma cut.rest) []
      (sym (ap if_full (names_cut text cut.front cut.rest cut.whole cut.none)) ∙ says) in
      absurd (cc first.3)
]
names_say text (name ∷ names) says = elim (first_of 44 text) [
  | inl none ↦
      let first = first_full text [] (name ∷ names) (sym (ap if_full (names_end text none)) ∙ says) in
      let no_others : [] ≡ first.1 = some_same [] first.1 first.2 in
      let alone : AreNames text (text ∷ []) = (refl, first.0, none) in
      subst (AreNames text) (ap (λ others. text ∷ others) no_others ∙ first.3) alone
  | inr cut ↦
      let first = first_full cut.front (slice_split is_comma cut.rest) (name ∷ names)
      (sym (ap if_full (names_cut text cut.front cut.rest cut.whole cut.none)) ∙ says) in
      let same : first.1 ≡ names = cc first.3 in
      let behind = names_say cut.rest names (first.2 ∙ ap Some same) in
      let all : AreNames text (cut.front ∷ names) =
      with_others text cut.front cut.rest names cut.whole first.0 cut.none behind in
      subst (AreNames text) (ap (λ others. cut.front ∷ others) (sym same) ∙ first.3) all
]

-- ---- so it is with principals

apart : (xs ys : List ℕ) → bytes_eq xs ys ≡ false → xs ≢ ys
apart xs ys differs = λ same.
    let is : bytes_eq xs ys ≡ true = (bytes_eq-Decides xs ys).1 same in cc (differs, is)

pub principals_are : (text : List ℕ) (names : List (List ℕ)) → ArePrincipals text names → principals_in text ≡ Some names
unfolding principals_in
principals_are text names (inl (dash, none)) =
    ap (λ (b : Bool). if b then Some [] else if_full (slice_split is_comma text)) ((bytes_eq-Decides text no_principals).1 dash)
    ∙ ap Some (sym none)
principals_are text names (inr (other, are)) = elim (cases_Bool (bytes_eq text no_principals)) [
  | inl dash ↦ absurd (other ((bytes_eq-Decides text no_principals).0 dash))
  | inr differs ↦
      ap (λ (b : Bool). if b then Some [] else if_full (slice_split is_comma text)) differs ∙ names_are text names are
]

pub principals_say : (text : List ℕ) (names : List (List ℕ)) → principals_in text ≡ Some names → ArePrincipals text names
unfolding principals_in
principals_say text names says = elim (cases_Bool (bytes_eq text no_principals)) [
  | inl dash ↦
      let none : Some [] ≡ Some names =
      sym (ap (λ (b : Bool). if b then Some [] else if_full (slice_split is_comma text)) dash) ∙ says in
      inl ((bytes_eq-Decides text no_principals).0 dash, sym (some_same [] names none))
  | inr differs ↦
      let named : if_full (slice_split is_comma text) ≡ Some names =
      sym (ap (λ (b : Bool). if b then Some [] else if_full (slice_split is_comma text)) differs) ∙ says in
      inr (apart text no_principals differs, names_say text names named)
]

pub principals_are_once : (text : List ℕ) (names : List (List ℕ)) → (principals_in text ≡ Some names) ↔ ArePrincipals text names
principals_are_once text names = (principals_say text names, principals_are text names)
