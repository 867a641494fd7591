-- The text of a set, as the lines of its items, and two such texts merged.
use Rattle.std.specs.Prelude.{◌≡◌, ◌⊎◌, ◌+◌, ◌&&◌, ℕ, Bool, true, false, List, [], ◌∷◌, ◌++◌, map, length}
use Rattle.std.specs.Prelude.{Option, Some, None, if◌then◌else◌}
use Rattle.std.specs.List.{AllByRecursion, concat}
use Rattle.std.specs.Ordering.{is_lt}
use Rattle.picky_text.specs.Lines.{HasNo}
use Rattle.picky_issuing.specs.Parts.{lines_with_ends}
use Rattle.picky_inventory.specs.InOrder.{Has, line_cmp, ordered}

-- one line, with the LF that ends it
pub record IsWholeLine (line : List ℕ) : Type 0 where
  pub front : List ℕ
  pub none : HasNo 10 front
  pub is : line ≡ front ++ 10 ∷ []

-- each line of a text has its LF, the last too
abbrev pub HasWholeLines : (text : List ℕ) → Type 0
HasWholeLines text = AllByRecursion IsWholeLine (lines_with_ends text)

-- the lines of the items, by their bytes, each once
abbrev pub ordered_text : {A : Type 0} → (line_of : A → List ℕ) (items : List A) → List ℕ
ordered_text line_of items = concat (ordered line_cmp (map line_of items))

-- each item has a line, and no two of them have one
pub record LinesTellApart {A : Type 0} (line_of : A → List ℕ) (items : List A) : Type 0 where
  pub whole : AllByRecursion (λ x. IsWholeLine (line_of x)) items
  pub one : (x y : A) → Has items x → Has items y → line_of x ≡ line_of y → x ≡ y

-- the lines of two texts, by their bytes, each once
abbrev pub merged : (left right : List ℕ) → List ℕ
merged left right = concat (ordered line_cmp (lines_with_ends left ++ lines_with_ends right))

-- a line is greater than the one before it, where there is one
abbrev pub follows : (before : Option (List ℕ)) (line : List ℕ) → Bool
follows None line = true
follows (Some before) line = is_lt (line_cmp before line)

-- the number of the first line that is no item's or doesn't follow the one before it, counted on from n
abbrev pub first_bad : (is_item : List ℕ → Bool) (n : ℕ) (before : Option (List ℕ)) → List (List ℕ) → Option ℕ
first_bad is_item n before [] = None
first_bad is_item n before (line ∷ more) =
    if is_item line && follows before line then first_bad is_item (n + 1) (Some line) more else Some n

-- the last line of a front, or the one before it
abbrev pub last_before : (before : Option (List ℕ)) (front : List (List ℕ)) → Option (List ℕ)
last_before before [] = before
last_before before (line ∷ front) = last_before (Some line) front

-- line number k, counted on from n, is no item's or doesn't follow the one before it, and no line before it is such
pub record IsFirstBad (is_item : List ℕ → Bool) (n : ℕ) (before : Option (List ℕ)) (lines : List (List ℕ)) (k : ℕ)
    : Type 0 where
  pub front : List (List ℕ)
  pub line : List ℕ
  pub rest : List (List ℕ)
  pub whole : lines ≡ front ++ line ∷ rest
  pub number : k ≡ n + length front
  pub good : first_bad is_item n before front ≡ None
  pub bad : (is_item line ≡ false) ⊎ (follows (last_before before front) line ≡ false)
