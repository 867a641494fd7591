-- A line is cut at its first separator, or has none.
use Rattle.std.proofs.Common.{◌≡◌, ◌≢◌, ◌↔◌, ℕ, ◌==◌, ◌&&◌, List, [], ◌∷◌, ◌++◌}
use Rattle.std.proofs.Common.{codes, false, Option, Some, None, refl}
use Rattle.std.proofs.Common.{sym}
use Rattle.std.proofs.Common.{◌∙◌, ap, inl, inr}
use Rattle.std.proofs.lemmas.Bool.{cases_Bool, and_parts, eqb-true}
use Rattle.std.proofs.lemmas.List.{append_assoc}
use Rattle.std.specs.Prelude.{unwrap_or}
use Rattle.picky_text.proofs.FrontLaws.{option_cases}
use Rattle.picky_kv.specs.Lines.{key_and_value, prefixed}
use Rattle.picky_kv.specs.Parts.{HasNoSeparator, AreKeyAndValue}

-- the parts of a pair
abbrev pub some_of : {A B : Type 0} → A → B → Option (A × B)
some_of a b = Some (a, b)

pub some_parts : {A B : Type 0} (a c : A) (b d : B) → some_of a b ≡ some_of c d → (a ≡ c) × (b ≡ d)
some_parts a c b d same =
    let pairs = ap (λ o. unwrap_or o (a, b)) same in
    (ap (λ p. p.0) pairs, ap (λ p. p.1) pairs)

separated : (front rest : List ℕ) → front ++ codes ": " ++ rest ≡ front ++ 58 ∷ 32 ∷ rest
separated front rest = append_assoc front (58 ∷ 32 ∷ []) rest

-- no separator stands in fewer than two bytes
none_in_none : HasNoSeparator []
none_in_none [] rest same = cc same
none_in_none (a ∷ front) rest same = cc same

-- nor where none stands at the first byte and none after it
none_behind : (a : ℕ) (text : List ℕ) → ((rest : List ℕ) → a ∷ text ≢ 58 ∷ 32 ∷ rest)
    → HasNoSeparator text → HasNoSeparator (a ∷ text)
none_behind a text here none [] rest same = here rest same
none_behind a text here none (b ∷ front) rest same = none front rest (cc same)

none_after : (a : ℕ) (text : List ℕ) → HasNoSeparator (a ∷ text) → HasNoSeparator text
none_after a text none front rest same = none (a ∷ front) rest (ap (λ l. a ∷ l) same)

-- a front that goes on with a space after a colon is no front of a line without a separator there
no_space : (a b : ℕ) (text front rest r : List ℕ) → (a == 58 && b == 32) ≡ false
    → b ∷ text ≡ front ++ codes ": " ++ rest → a ∷ front ≡ 58 ∷ 32 ∷ r → ⊥
no_space a b text front rest r other joined is =
    let colon : a ≡ 58 = cc is in
    let after : front ≡ 32 ∷ r = cc is in
    let begins : b ∷ text ≡ 32 ∷ (r ++ codes ": " ++ rest) = rw after at joined in
    let space : b ≡ 32 = cc begins in
    cc (rw (colon, space) at other)

-- what is cut are the parts
pub cut_is : (line front rest : List ℕ) → key_and_value line ≡ Some (front, rest)
    → AreKeyAndValue line front rest
cut_is [] front rest is = cc is
cut_is (a ∷ []) front rest is = cc is
cut_is (a ∷ b ∷ text) front rest is = elim (cases_Bool (a == 58 && b == 32)) [
  | inl here ↦
      let parts = and_parts (a == 58) (b == 32) here in
      let colon : a ≡ 58 = eqb-true a 58 parts.0 in
      let space : b ≡ 32 = eqb-true b 32 parts.1 in
      let cut : some_of [] text ≡ some_of front rest = rw here at is in
      let ends = some_parts [] front text rest cut in
      rw (← ends.0, ← ends.1, colon, space) (record { joined = refl; first = none_in_none })
  | inr other ↦
      let more : prefixed (a ∷ []) (key_and_value (b ∷ text)) ≡ Some (front, rest) =
      rw other at is in
      elim (option_cases (key_and_value (b ∷ text))) [
        | inl some ↦
            let p = some.0 in
            let found = cut_is (b ∷ text) p.0 p.1 some.1 in
            let cut : some_of (a ∷ p.0) p.1 ≡ some_of front rest = rw some.1 at more in
            let ends = some_parts (a ∷ p.0) front p.1 rest cut in
            let none : (r : List ℕ) → a ∷ p.0 ≢ 58 ∷ 32 ∷ r = λ r is.
            absurd (no_space a b text p.0 p.1 r other found.joined is) in
            rw (← ends.0, ← ends.1) (record {
              joined = ap (λ l. a ∷ l) found.joined;
              first = none_behind a p.0 none found.first;
            })
        | inr none ↦ cc (rw none at more)
      ]
]

-- parts are cut so
parts_are_cut : (front rest : List ℕ) → HasNoSeparator front
    → key_and_value (front ++ 58 ∷ 32 ∷ rest) ≡ Some (front, rest)
parts_are_cut [] rest none = refl
parts_are_cut (a ∷ []) rest none = elim (cases_Bool (a == 58 && 58 == 32)) [
  | inl early ↦ cc (and_parts (a == 58) (58 == 32) early).1
  | inr other ↦ rw other refl
]
parts_are_cut (a ∷ b ∷ front) rest none = elim (cases_Bool (a == 58 && b == 32)) [
  | inl early ↦
      let parts = and_parts (a == 58) (b == 32) early in
      let colon : a ≡ 58 = eqb-true a 58 parts.0 in
      let space : b ≡ 32 = eqb-true b 32 parts.1 in
      let same : a ∷ b ∷ front ≡ 58 ∷ 32 ∷ front = cc in
      absurd (none [] front same)
  | inr other ↦
      let more = parts_are_cut (b ∷ front) rest (none_after a (b ∷ front) none) in
      rw (other, more) refl
]

pub cut_of_parts : (line front rest : List ℕ) → AreKeyAndValue line front rest
    → key_and_value line ≡ Some (front, rest)
cut_of_parts line front rest parts =
    ap key_and_value (parts.joined ∙ separated front rest) ∙ parts_are_cut front rest parts.first

-- a line with a separator is cut somewhere
is_cut : (front rest : List ℕ)
    → (p : (List ℕ × List ℕ)) × (key_and_value (front ++ 58 ∷ 32 ∷ rest) ≡ Some p)
is_cut [] rest = (([], rest), refl)
is_cut (a ∷ []) rest = elim (cases_Bool (a == 58 && 58 == 32)) [
  | inl early ↦ cc (and_parts (a == 58) (58 == 32) early).1
  | inr other ↦ ((a ∷ [], rest), rw other refl)
]
is_cut (a ∷ b ∷ front) rest = elim (cases_Bool (a == 58 && b == 32)) [
  | inl early ↦ (([], front ++ 58 ∷ 32 ∷ rest), rw early refl)
  | inr other ↦
      let more = is_cut (b ∷ front) rest in
      ((a ∷ more.0.0, more.0.1), rw (other, more.1) refl)
]

pub uncut_has_none : (line : List ℕ) → key_and_value line ≡ None → HasNoSeparator line
uncut_has_none line none front rest same =
    let some = is_cut front rest in
    let whole = ap key_and_value (same ∙ separated front rest) in
    cc (sym none ∙ whole ∙ some.1)

pub none_is_uncut : (line : List ℕ) → HasNoSeparator line → key_and_value line ≡ None
none_is_uncut line none = elim (option_cases (key_and_value line)) [
  | inl some ↦ absurd (none some.0.0 some.0.1 (cut_is line some.0.0 some.0.1 some.1).joined)
  | inr uncut ↦ uncut
]

pub key_and_value_iff : (line front rest : List ℕ)
    → key_and_value line ≡ Some (front, rest) ↔ AreKeyAndValue line front rest
key_and_value_iff line front rest = (cut_is line front rest, cut_of_parts line front rest)

pub key_and_value_none_iff : (line : List ℕ) → key_and_value line ≡ None ↔ HasNoSeparator line
key_and_value_none_iff line = (uncut_has_none line, none_is_uncut line)

-- so a line has its parts once
pub parts_are_unique : (line front rest other more : List ℕ) → AreKeyAndValue line front rest
    → AreKeyAndValue line other more → (front ≡ other) × (rest ≡ more)
parts_are_unique line front rest other more one two =
    let both = sym (cut_of_parts line front rest one) ∙ cut_of_parts line other more two in
    some_parts front other rest more both
