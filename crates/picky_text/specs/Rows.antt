-- A text in lines of 64 characters, as PuTTY breaks base64, in the files of its manual's Appendix C and in RFC 4716's.
use Rattle.std.specs.Prelude.{◌≡◌, ◌<◌, ◌≤◌, List, [], ◌∷◌, ℕ, zero, suc, length, take, drop}
use Rattle.std.specs.List.{concat}

-- each row but the last has 64 characters, and the last has one to 64
abbrev pub AreRows : List (List ℕ) → Type 0
AreRows [] = Unit {0}
AreRows (row ∷ []) = (0 < length row) × (length row ≤ 64)
AreRows (row ∷ next ∷ more) = (length row ≡ 64) × AreRows (next ∷ more)

-- the rows of a text: together they are the text
pub record IsRowsOf (text : List ℕ) (rows : List (List ℕ)) : Type 0 where
  pub joined : concat rows ≡ text
  pub sized : AreRows rows

-- the same, as a function
abbrev pub rows_within : ℕ → List ℕ → List (List ℕ)
rows_within zero text = []
rows_within (suc more) [] = []
rows_within (suc more) (b ∷ bs) = take 64 (b ∷ bs) ∷ rows_within more (drop 64 (b ∷ bs))

unfoldable pub rows_of : List ℕ → List (List ℕ)
rows_of text = rows_within (length text) text
