-- A set as the list of its items in strict order.
use Rattle.std.specs.Prelude.{◌≡◌, ◌⊎◌, ◌↔◌, ℕ, List, [], ◌∷◌}
use Rattle.std.specs.Cmp.Lexicographic.{slice_cmp}
use Rattle.std.specs.Ordering.{nat_cmp}
use Rattle.std.specs.declared.cmp.Ordering.{Ordering}
use Rattle.std.specs.declared.cmp.Ordering.TheVariants.{Less, Equal, Greater}

-- x before y, in y's place, or in what follows y: `rest` follows y, and `more` is that with x put in
abbrev pub placed : {K : Type 0} → Ordering → (x y : K) (rest more : List K) → List K
placed Less x y rest more = x ∷ y ∷ rest
placed Equal x y rest more = y ∷ rest
placed Greater x y rest more = y ∷ more

-- a list in strict order, with x put in at its place
abbrev pub put : {K : Type 0} → (K → K → Ordering) → K → List K → List K
put R x [] = x ∷ []
put R x (y ∷ ys) = placed (R x y) x y ys (put R x ys)

-- the items of a list, each once, in strict order
abbrev pub ordered : {K : Type 0} → (K → K → Ordering) → List K → List K
ordered R [] = []
ordered R (x ∷ xs) = put R x (ordered R xs)

-- x is an item of the list
abbrev pub Has : {K : Type 0} → List K → K → Type 0
Has [] x = ⊥
Has (y ∷ ys) x = (x ≡ y) ⊎ Has ys x

-- two lists are of one set
abbrev pub SameItems : {K : Type 0} → (xs ys : List K) → Type 0
SameItems {K} xs ys = (x : K) → Has xs x ↔ Has ys x

-- lines are ordered by their bytes: the first two that differ decide, and a front of the other is the smaller
abbrev pub line_cmp : (a b : List ℕ) → Ordering
line_cmp = slice_cmp nat_cmp
