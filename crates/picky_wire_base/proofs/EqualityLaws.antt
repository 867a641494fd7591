-- The laws of the equality of lists.
use Rattle.std.proofs.Common.{ℕ, zero, suc, ◌<◌, Bool, List, [], ◌∷◌, length, refl, arith}
use Rattle.std.specs.Prelude.{◌↔◌, ◌&&◌, IsTrue}
use Rattle.std.specs.Cmp.{first_so, second_so}
use Rattle.std.specs.Cmp.Lexicographic.{pointwise, as_long, pointwise_decides}
use Rattle.std.specs.List.{slice_index_or}
use Rattle.picky_wire_base.specs.Equality.{HasEqualItems, IsEquality}

items_are : {A : Type 0} (E : A → A → Bool) (xs ys : List A) → IsTrue (pointwise E xs ys)
    → (i : ℕ) (d : A) → i < length xs → IsTrue (E (slice_index_or xs i d) (slice_index_or ys i d))
items_are E [] ys are i d within = absurd (omega arith)
items_are E (x ∷ xs) [] are i d within = cc are
items_are E (x ∷ xs) (y ∷ ys) are zero d within = first_so (E x y) (pointwise E xs ys) are
items_are E (x ∷ xs) (y ∷ ys) are (suc i) d within =
    items_are E xs ys (second_so (E x y) (pointwise E xs ys) are) i d (omega arith)

lists_are : {A : Type 0} (E : A → A → Bool) (xs ys : List A) → HasEqualItems E xs ys
    → IsTrue (pointwise E xs ys)
lists_are E [] [] are = refl
lists_are E [] (y ∷ ys) are = absurd (omega (arith, are.same_count))
lists_are E (x ∷ xs) [] are = absurd (omega (arith, are.same_count))
lists_are E (x ∷ xs) (y ∷ ys) are =
    let first : IsTrue (E x y) = are.each 0 x (omega arith) in
    let rest = lists_are E xs ys (record {
      same_count = omega (arith, are.same_count);
      each = λ i d within. are.each (suc i) d (omega arith);
    }) in
    λ i. first i && rest i

-- Two lists are equal exactly where they are as long and their items are equal, place by place.
pub equal_by_items : {A : Type 0} (E : A → A → Bool) (xs ys : List A)
    → IsTrue (pointwise E xs ys) ↔ HasEqualItems E xs ys
equal_by_items E xs ys = (
  λ are. record { same_count = as_long E xs ys are; each = items_are E xs ys are },
  lists_are E xs ys,
)

-- Where the items' equality is of contents, so is the lists'.
pub lists_equality : {A : Type 0} (E : A → A → Bool) → IsEquality E → IsEquality (pointwise E)
lists_equality E is = pointwise_decides is

-- what `laws` states of the equality of lists
pub ruleset equality_laws = (equal_by_items, lists_equality)
