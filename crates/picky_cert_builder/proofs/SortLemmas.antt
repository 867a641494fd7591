-- A stable sort gives the items in order, since what it ensures leaves no other list.
use Rattle.std.proofs.Common.{◌≡◌, ℕ, zero, suc, ◌<◌, ◌≤◌, Bool, true, false, cond, not, List, [], ◌∷◌}
use Rattle.std.proofs.Common.{length, get_or, filter, refl, sym, ap, ◌∙◌, inl, inr, suc-le-suc, zero-le}
use Rattle.std.proofs.lemmas.Bool.{cond-true, cond-false, cases_Bool, and_parts, not-true, true≢false}
use Rattle.std.proofs.lemmas.Fn.{always_returns_same}
use Rattle.std.proofs.lemmas.List.Sorted.{sorted_far, ranks_by}
use Rattle.std.specs.Cmp.{IsStrictWeakOrder}
use Rattle.std.specs.Cmp.Lexicographic.{slice_cmp, nat_list_cmp_total}
use Rattle.std.specs.Fn.{Called}
use Rattle.std.specs.List.Sorted.{ties, IsSortedBy, IsStableBy, IsSortedByClosure, IsStableByClosure}
use Rattle.std.specs.Ordering.{is_lt, nat_cmp}
use Rattle.std.specs.declared.cmp.Ordering.{Ordering}
use Rattle.picky_cert_builder.specs.ByName.{put, in_order, by_name}
use denote.Param.Members.{Mut}
use denote.Ref.{Bor}

-- ---- filters and `put`, one item at a time

-- an item that passes is kept
filter_kept : {X : Type 0} (test : X → Bool) (y : X) (ys : List X) → test y ≡ true
    → filter test (y ∷ ys) ≡ y ∷ filter test ys
filter_kept test y ys passes = cond-true _ _ _ passes

-- and one that doesn't is dropped
filter_dropped : {X : Type 0} (test : X → Bool) (y : X) (ys : List X) → test y ≡ false
    → filter test (y ∷ ys) ≡ filter test ys
filter_dropped test y ys fails = cond-false _ _ _ fails

-- the item goes past one that is less
put_past : {X : Type 0} (less : X → X → Bool) (x y : X) (ys : List X) → less y x ≡ true
    → put less x (y ∷ ys) ≡ y ∷ put less x ys
put_past less x y ys is_less = cond-true _ _ _ is_less

-- and stays before one that isn't
put_stays : {X : Type 0} (less : X → X → Bool) (x y : X) (ys : List X) → less y x ≡ false
    → put less x (y ∷ ys) ≡ x ∷ y ∷ ys
put_stays less x y ys not_less = cond-false _ _ _ not_less

-- ---- items that tie

-- neither of two items that tie is less
neither_less : {X : Type 0} (less : X → X → Bool) (x y : X) → ties less x y ≡ true
    → (less x y ≡ false) × (less y x ≡ false)
neither_less less x y tie =
    let parts = and_parts (not (less x y)) (not (less y x)) tie in
    (not-true _ parts.0, not-true _ parts.1)

-- two items of which neither is less tie
tie_from : {X : Type 0} (less : X → X → Bool) (x y : X) → less x y ≡ false → less y x ≡ false
    → ties less x y ≡ true
tie_from less x y left right = rw (left, right) refl

-- no item is less than itself
not_less_itself : {X : Type 0} {less : X → X → Bool} → IsStrictWeakOrder less → (x : X)
    → less x x ≡ false
not_less_itself {less = less} order x = elim (cases_Bool (less x x)) [
  | inl is_less ↦ order.one_way x x is_less
  | inr not_less ↦ not_less
]

-- so each item ties with itself
ties_itself : {X : Type 0} {less : X → X → Bool} → IsStrictWeakOrder less → (x : X)
    → ties less x x ≡ true
ties_itself {less = less} order x =
    tie_from less x x (not_less_itself order x) (not_less_itself order x)

-- ---- the order of ties stays

-- of the items that tie with x, putting one among others gives what putting it in front does
filter_put : {X : Type 0} {less : X → X → Bool} → IsStrictWeakOrder less → (x c : X) (ds : List X)
    → filter (ties less x) (put less c ds) ≡ filter (ties less x) (c ∷ ds)
filter_put order x c [] = refl
filter_put {less = less} order x c (d ∷ ds) =
    let test = ties less x in
    elim (cases_Bool (less d c)) [
      | inr stays ↦ ap (filter test) (put_stays less c d ds stays)
      | inl past ↦
          ap (filter test) (put_past less c d ds past)
          ∙ elim (cases_Bool (test d)) [
            | inr without ↦
                filter_dropped test d (put less c ds) without ∙ filter_put order x c ds
                ∙ ap (λ l. cond (test c) (c ∷ l) l) (sym (filter_dropped test d ds without))
            | inl with ↦ elim (cases_Bool (test c)) [
              | inl both ↦
                  let before = (neither_less less x d with).1 in
                  let behind = (neither_less less x c both).0 in
                  absurd (true≢false (sym past ∙ order.chain d x c before behind))
              | inr only ↦
                  filter_kept test d (put less c ds) with
                  ∙ ap (λ l. d ∷ l) (filter_put order x c ds ∙ filter_dropped test c ds only)
                  ∙ sym (filter_dropped test c (d ∷ ds) only ∙ filter_kept test d ds with)
            ]
          ]
    ]

-- so the items that tie with x stand as before
filter_in_order : {X : Type 0} {less : X → X → Bool} → IsStrictWeakOrder less → (x : X) (cs : List X)
    → filter (ties less x) (in_order less cs) ≡ filter (ties less x) cs
filter_in_order order x [] = refl
filter_in_order {less = less} order x (c ∷ cs) =
    filter_put order x c (in_order less cs)
    ∙ ap (λ l. cond (ties less x c) (c ∷ l) l) (filter_in_order order x cs)

-- ---- lists that rise

-- none of the items is less than x
abbrev NoneLess : {X : Type 0} → (X → X → Bool) → X → List X → Type 0
NoneLess less x [] = Unit {0}
NoneLess less x (y ∷ ys) = (less y x ≡ false) × NoneLess less x ys

-- no item is less than one before it
abbrev Rises : {X : Type 0} → (X → X → Bool) → List X → Type 0
Rises less [] = Unit {0}
Rises less (y ∷ ys) = NoneLess less y ys × Rises less ys

-- where y isn't less than x, and no item is less than y, none is less than x
none_less_than_lower : {X : Type 0} {less : X → X → Bool} → IsStrictWeakOrder less
    → (x y : X) (ys : List X) → less y x ≡ false → NoneLess less y ys → NoneLess less x ys
none_less_than_lower order x y [] lower none = tt
none_less_than_lower order x y (z ∷ zs) lower none =
    (order.chain z y x none.0 lower, none_less_than_lower order x y zs lower none.1)

-- none is less, by their places
none_less_at : {X : Type 0} (less : X → X → Bool) (x : X) (ys : List X)
    → ((j : ℕ) → j < length ys → less (get_or ys j x) x ≡ false) → NoneLess less x ys
none_less_at less x [] at = tt
none_less_at less x (y ∷ ys) at =
    (at zero (suc-le-suc zero-le), none_less_at less x ys (λ j lt. at (suc j) (suc-le-suc lt)))

-- a list rises, by the places of its items
rises_from_places : {X : Type 0} (less : X → X → Bool) (ys : List X)
    → ((i j : ℕ) (d : X) → i ≤ j → j < length ys → less (get_or ys j d) (get_or ys i d) ≡ false)
    → Rises less ys
rises_from_places less [] at = tt
rises_from_places less (y ∷ ys) at = (
  none_less_at less y ys (λ j lt. at zero (suc j) y zero-le (suc-le-suc lt)),
  rises_from_places less ys (λ i j d le lt. at (suc i) (suc j) d (suc-le-suc le) (suc-le-suc lt)),
)

-- a list rises, by what a sort ensures
rises_from_sort : {X : Type 0} {less : X → X → Bool} → IsStrictWeakOrder less → (ys : List X)
    → IsSortedBy less ys → Rises less ys
rises_from_sort {less = less} order ys sorted =
    rises_from_places less ys (sorted_far less order ys sorted)

-- where neither c nor any of the others is less, none is once c is put among them
none_less_put : {X : Type 0} (less : X → X → Bool) (x c : X) (ds : List X) → less c x ≡ false
    → NoneLess less x ds → NoneLess less x (put less c ds)
none_less_put less x c [] first none = (first, tt)
none_less_put less x c (d ∷ ds) first none = elim (cases_Bool (less d c)) [
  | inl past ↦ rw (put_past less c d ds past) (none.0, none_less_put less x c ds first none.1)
  | inr stays ↦ rw (put_stays less c d ds stays) (first, none)
]

-- items that rise still do once one is put among them
rises_put : {X : Type 0} {less : X → X → Bool} → IsStrictWeakOrder less → (c : X) (ds : List X)
    → Rises less ds → Rises less (put less c ds)
rises_put order c [] rises = (tt, tt)
rises_put {less = less} order c (d ∷ ds) rises = elim (cases_Bool (less d c)) [
  | inl past ↦
      rw (put_past less c d ds past)
      (none_less_put less d c ds (order.one_way d c past) rises.0, rises_put order c ds rises.1)
  | inr stays ↦
      rw (put_stays less c d ds stays)
      ((stays, none_less_than_lower order c d ds stays rises.0), rises)
]

-- so the items in order rise
rises_in_order : {X : Type 0} {less : X → X → Bool} → IsStrictWeakOrder less → (cs : List X)
    → Rises less (in_order less cs)
rises_in_order order [] = tt
rises_in_order {less = less} order (c ∷ cs) =
    rises_put order c (in_order less cs) (rises_in_order order cs)

-- ---- there is one such list

-- where none is less than n, neither is an item that ties with one of them
none_less_tied : {X : Type 0} {less : X → X → Bool} → IsStrictWeakOrder less
    → (n x : X) (ys : List X) (w : X) (ws : List X) → NoneLess less n ys
    → filter (ties less x) ys ≡ w ∷ ws → less x n ≡ false
none_less_tied order n x [] w ws none found = cc
none_less_tied {less = less} order n x (y ∷ ys) w ws none found =
    elim (cases_Bool (ties less x y)) [
      | inl with ↦ order.chain x y n (neither_less less x y with).0 none.0
      | inr without ↦
          none_less_tied order n x ys w ws none.1
          (sym (filter_dropped (ties less x) y ys without) ∙ found)
    ]

-- two lists that rise, in which the items that tie stand alike, are one list
same_from_ties : {X : Type 0} {less : X → X → Bool} → IsStrictWeakOrder less → (ys zs : List X)
    → Rises less ys → Rises less zs
    → ((x : X) → filter (ties less x) ys ≡ filter (ties less x) zs) → ys ≡ zs
same_from_ties order [] [] left right same = refl
same_from_ties {less = less} order [] (z ∷ zs) left right same =
    let clash = same z ∙ filter_kept (ties less z) z zs (ties_itself order z) in cc
same_from_ties {less = less} order (y ∷ ys) [] left right same =
    let clash = sym (same y) ∙ filter_kept (ties less y) y ys (ties_itself order y) in cc
same_from_ties {X = X} {less = less} order (y ∷ ys) (z ∷ zs) left right same =
    let at_y = filter_kept (ties less y) y ys (ties_itself order y) in
    let at_z = filter_kept (ties less z) z zs (ties_itself order z) in
    let up = none_less_tied order z y (z ∷ zs) y _ (not_less_itself order z, right.0)
    (sym (same y) ∙ at_y) in
    let down = none_less_tied order y z (y ∷ ys) z _ (not_less_itself order y, left.0)
    (same z ∙ at_z) in
    let heads = sym at_y ∙ same y ∙ filter_kept (ties less y) z zs (tie_from less y z up down) in
    let head : y ≡ z = cc in
    let tails : (x : X) → filter (ties less x) ys ≡ filter (ties less x) zs =
    λ x. elim (cases_Bool (ties less x y)) [
      | inl with ↦
          let both = sym (filter_kept (ties less x) y ys with) ∙ same x
          ∙ filter_kept (ties less x) z zs (ap (ties less x) (sym head) ∙ with) in cc
      | inr without ↦
          sym (filter_dropped (ties less x) y ys without) ∙ same x
          ∙ filter_dropped (ties less x) z zs (ap (ties less x) (sym head) ∙ without)
    ] in
    ap (λ w. w ∷ ys) head ∙ ap (λ l. z ∷ l) (same_from_ties order ys zs left.1 right.1 tails)

-- what a stable sort ensures leaves one list: the items in order
pub sorted_is : {X : Type 0} (less : X → X → Bool) → IsStrictWeakOrder less → (xs ys : List X)
    → IsSortedBy less ys → IsStableBy less xs ys → ys ≡ in_order less xs
sorted_is less order xs ys sorted stable =
    same_from_ties order ys (in_order less xs) (rises_from_sort order ys sorted)
    (rises_in_order order xs) (λ x. stable x ∙ sym (filter_in_order order x xs))

-- the same of what `sort_by` ensures, where each call of its closure compares the names of two items
pub by_name_from_sort : {F X : Type 0} {g : Mut F (Bor X × (Bor X × Unit {0})) Ordering} {f : F}
    → (name : X → List ℕ) (xs ys : List X) → IsSortedByClosure g f ys → IsStableByClosure g f xs ys
    → ((a : Bor X × (Bor X × Unit {0})) (r : Ordering) (f' : F) → Called g f a r f'
    → (r ≡ slice_cmp nat_cmp (name a.0.now) (name a.1.0.now)) × (f' ≡ f))
    → ys ≡ by_name name xs
by_name_from_sort {X = X} {g = g} {f = f} name xs ys sorted stable compares =
    let less = λ (x y : X). is_lt (slice_cmp nat_cmp (name x) (name y)) in
    let order = ranks_by nat_list_cmp_total name in
    let answers = always_returns_same g (λ a r. is_lt r ≡ less a.0.now a.1.0.now) f
    (λ a r f' called. (ap is_lt (compares a r f' called).0, (compares a r f' called).1)) in
    sorted_is less order xs ys (sorted less order answers) (stable less order answers)
