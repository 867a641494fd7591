-- A stable sort by the bytes of names.
use Rattle.std.specs.Prelude.{ℕ, Bool, List, [], ◌∷◌, if◌then◌else◌}
use Rattle.std.specs.Ordering.{is_lt, nat_cmp}
use Rattle.std.specs.Cmp.Lexicographic.{slice_cmp}

-- an item among sorted ones, before the first that isn't less
abbrev pub put : {X : Type 0} → (X → X → Bool) → X → List X → List X
put less x [] = x ∷ []
put less x (y ∷ ys) = if less y x then y ∷ put less x ys else x ∷ y ∷ ys

-- the items in order; those of which none is less stand as before
abbrev pub in_order : {X : Type 0} → (X → X → Bool) → List X → List X
in_order less [] = []
in_order less (x ∷ xs) = put less x (in_order less xs)

-- by the bytes of their names
abbrev pub by_name : {X : Type 0} → (X → List ℕ) → List X → List X
by_name name xs = in_order (λ x y. is_lt (slice_cmp nat_cmp (name x) (name y))) xs
