-- A look-up goes on where an entry isn't the one, and ends at the first that is.
use Rattle.std.proofs.Common.{◌≡◌, ◌<◌, ◌≤◌, ◌+◌, ◌∙◌, ℕ, Bool, true, false, List, [], ◌∷◌, length, get_or, drop, refl, sym, ap}
use Rattle.std.specs.Prelude.{if◌then◌else◌, Option, None, Some}
use Rattle.std.proofs.lemmas.List.{at_drop_more, at_drop_all}
use Rattle.picky_ask.specs.declared.lookup.Mode.{Mode}
use Rattle.picky_ask.specs.declared.question.Question.{Question}
use Rattle.picky_ask.specs.declared.question.Entry.{Entry}
use Rattle.picky_ask.specs.Lookup.{or_later, place_of, side, first_side}
use Rattle.picky_ask.specs.Same.{same_question}

-- the entries from a place on are its entry and those behind it
from_place : {X : Type 0} (f : List Entry → X) (entries : List Entry) (i : ℕ) (e : Entry) → i < length entries
    → e ≡ get_or entries i e → f (drop i entries) ≡ f (e ∷ drop (i + 1) entries)
from_place f entries i e fits is =
    at_drop_more f entries i e fits ∙ ap (λ (x : Entry). f (x ∷ drop (i + 1) entries)) (sym is)

place_on : (q : Question) (e : Entry) (more : List Entry) (b : Bool) → same_question q e.question ≡ b
    → place_of q (e ∷ more) ≡ (if b then 0 else place_of q more + 1)
unfolding place_of
place_on q e more b is = ap (λ t. if t then 0 else place_of q more + 1) is

pub place_goes_on : (q : Question) (entries : List Entry) (i : ℕ) (e : Entry) → i < length entries → e ≡ get_or entries i e
    → same_question q e.question ≡ false → place_of q (drop i entries) ≡ place_of q (drop (i + 1) entries) + 1
place_goes_on q entries i e fits is fails =
    from_place (place_of q) entries i e fits is ∙ place_on q e (drop (i + 1) entries) false fails

pub place_ends : (q : Question) (entries : List Entry) (i : ℕ) (e : Entry) → i < length entries → e ≡ get_or entries i e
    → same_question q e.question ≡ true → place_of q (drop i entries) ≡ 0
place_ends q entries i e fits is holds =
    from_place (place_of q) entries i e fits is ∙ place_on q e (drop (i + 1) entries) true holds

no_place : (q : Question) → place_of q [] ≡ 0
unfolding place_of
no_place q = refl

pub place_none : (q : Question) (entries : List Entry) (i : ℕ) → length entries ≤ i → place_of q (drop i entries) ≡ 0
place_none q entries i all = at_drop_all (place_of q) entries i all ∙ no_place q

first_on : (mode : Mode) (key iv text : List ℕ) (e : Entry) (more : List Entry) (o : Option (List ℕ))
    → side mode key iv text e ≡ o
    → first_side mode key iv text (e ∷ more) ≡ or_later o (first_side mode key iv text more)
unfolding first_side
first_on mode key iv text e more o is = ap (λ s. or_later s (first_side mode key iv text more)) is

pub first_goes_on : (mode : Mode) (key iv text : List ℕ) (entries : List Entry) (i : ℕ) (e : Entry) → i < length entries
    → e ≡ get_or entries i e → side mode key iv text e ≡ None
    → first_side mode key iv text (drop i entries) ≡ first_side mode key iv text (drop (i + 1) entries)
first_goes_on mode key iv text entries i e fits is none =
    from_place (first_side mode key iv text) entries i e fits is ∙ first_on mode key iv text e (drop (i + 1) entries) None none

pub first_ends : (mode : Mode) (key iv text x : List ℕ) (entries : List Entry) (i : ℕ) (e : Entry) → i < length entries
    → e ≡ get_or entries i e → side mode key iv text e ≡ Some x → first_side mode key iv text (drop i entries) ≡ Some x
first_ends mode key iv text x entries i e fits is some =
    from_place (first_side mode key iv text) entries i e fits is ∙ first_on mode key iv text e (drop (i + 1) entries) (Some x) some

no_side : (mode : Mode) (key iv text : List ℕ) → first_side mode key iv text [] ≡ None
unfolding first_side
no_side mode key iv text = refl

pub first_none : (mode : Mode) (key iv text : List ℕ) (entries : List Entry) (i : ℕ) → length entries ≤ i
    → first_side mode key iv text (drop i entries) ≡ None
first_none mode key iv text entries i all = at_drop_all (first_side mode key iv text) entries i all ∙ no_side mode key iv text
