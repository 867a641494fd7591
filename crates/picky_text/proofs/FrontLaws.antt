-- What is behind the front of a text.
use Rattle.std.proofs.Common.{◌≡◌, ◌≢◌, ◌==◌, ◌⊎◌, ℕ, List, [], ◌∷◌, ◌++◌, Option, Some, None, refl, inl, inr}
use Rattle.std.proofs.lemmas.Bool.{cases_Bool, eq-eqb, eqb-true}
use Rattle.picky_text.specs.Behind.{behind}

-- What follows a front is behind it.
pub behind_front : (front rest : List ℕ) → behind front (front ++ rest) ≡ Some rest
behind_front [] rest = refl
behind_front (c ∷ front) rest = rw (eq-eqb c c refl) (behind_front front rest)

-- What is behind a front follows it.
pub behind_says : (front text rest : List ℕ) → behind front text ≡ Some rest → text ≡ front ++ rest
behind_says [] text rest says = cc says
behind_says (c ∷ front) [] rest says = cc says
behind_says (c ∷ front) (b ∷ text) rest says = elim (cases_Bool (c == b)) [
  | inl same ↦ let more = behind_says front text rest (rw same at says) in cc (more, eqb-true c b same)
  | inr other ↦ let nothing : None ≡ Some rest = rw other at says in cc nothing
]

-- an option is nothing, or something
pub option_cases : {A : Type 0} (o : Option A) → ((x : A) × (o ≡ Some x)) ⊎ (o ≡ None)
option_cases (Some x) = inl (x, refl)
option_cases None = inr refl

-- Nothing is behind a front that the text doesn't begin with.
pub behind_none : (front text : List ℕ) → ((rest : List ℕ) → text ≢ front ++ rest) → behind front text ≡ None
behind_none front text none = elim (option_cases (behind front text)) [
  | inl some ↦ absurd (none some.0 (behind_says front text some.0 some.1))
  | inr nothing ↦ nothing
]
