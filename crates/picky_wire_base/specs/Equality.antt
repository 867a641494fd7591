-- What it is to compare by contents.
use Rattle.std.specs.Prelude.{◌≡◌, ◌<◌, ◌↔◌, ℕ, Bool, IsTrue, List, Option, Some, length}
use Rattle.std.specs.List.{slice_index_or}
use Rattle.std.specs.declared.cmp.Ordering.{Ordering}

-- two values are equal exactly where they are the same
abbrev pub IsEquality : {A : Type 0} → (A → A → Bool) → Type 0
IsEquality eq = (a b : _) → IsTrue (eq a b) ↔ (a ≡ b)

-- the same of values that borrow: where they show the same
abbrev pub IsEqualityOf : {A B : Type 0} → (A → B) → (A → A → Bool) → Type 0
IsEqualityOf shown eq = (a b : _) → IsTrue (eq a b) ↔ (shown a ≡ shown b)

-- the lists are as long, and at each place their items are equal
pub record HasEqualItems {A : Type 0} (eq : A → A → Bool) (xs ys : List A) : Type 0 where
  pub same_count : length xs ≡ length ys
  pub each : (i : ℕ) (d : A) → i < length xs
      → IsTrue (eq (slice_index_or xs i d) (slice_index_or ys i d))

-- `cmp` answers this order, and `partial_cmp` answers it for any two values
pub record IsOrder {A : Type 0} (order : A → A → Ordering) (partial_cmp : A → A → Option Ordering)
    (cmp : A → A → Ordering) : Type 0 where
  pub total : (a b : A) → cmp a b ≡ order a b
  pub partial : (a b : A) → partial_cmp a b ≡ Some (order a b)
