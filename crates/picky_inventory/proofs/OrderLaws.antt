-- The laws of `ordered`: it has a list's items, is in strict order, and is the one list that is and has.
use Rattle.std.proofs.Common.{◌≡◌, ◌≢◌, ◌⊎◌, ◌↔◌, ℕ, zero, suc, ◌<◌, ◌++◌, List, [], ◌∷◌, Contains, IsPermutation, IsSorted}
use Rattle.std.proofs.Common.{◌+◌, Bool, map, Ordering, Less, Equal, Greater, refl, sym, ◌∙◌, ap, ap₂, subst, inl, inr, arith}
use Rattle.std.proofs.Common.{length, slice_index_or}
use Rattle.std.proofs.lemmas.Bool.{cases_Bool}
use Rattle.std.proofs.lemmas.Cmp.{tied_itself}
use Rattle.std.proofs.lemmas.List.{get_or-map, length-map}
use Rattle.std.proofs.lemmas.List.Kept.{Contains-dedup, Contains-from_dedup, IsStrictlySortedBy-dedup}
use Rattle.std.proofs.lemmas.List.Sorted.{Contains-permutation, IsPermutation-map, IsPermutation-sym}
use Rattle.std.specs.Cmp.{IsTotalOrder}
use Rattle.std.specs.Cmp.Lexicographic.{nat_list_cmp_total, nat_list_eq_equiv, texts_ties, pointwise, bytes_decides}
use Rattle.std.specs.List.{AllByRecursion, dedup, dedup_from}
use Rattle.std.specs.List.Sorted.{IsStrictlySortedBy}
use Rattle.std.specs.Ordering.{ordering_reverse, is_eq, is_lt}
use Rattle.std.specs.Prelude.{nat_eq}
use Rattle.picky_text.proofs.ListLaws.{all_weaker}
use Rattle.picky_inventory.specs.InOrder.{placed, put, ordered, Has, SameItems, line_cmp}

-- ---- what a list has

pub same_back : {K : Type 0} → (xs ys : List K) → SameItems xs ys → SameItems ys xs
same_back xs ys same x = ((same x).1, (same x).0)

pub same_then : {K : Type 0} → (xs ys zs : List K) → SameItems xs ys → SameItems ys zs → SameItems xs zs
same_then xs ys zs one two x = (λ h. (two x).0 ((one x).0 h), λ h. (one x).1 ((two x).1 h))

pub has_append : {K : Type 0} → (xs ys : List K) (x : K) → Has (xs ++ ys) x ↔ (Has xs x ⊎ Has ys x)
has_append [] ys x = (λ h. inr h, λ h. elim h [ inl none ↦ absurd none | inr there ↦ there ])
has_append (y ∷ xs) ys x =
    let more = has_append xs ys x in (
      λ h. elim h [
        | inl is ↦ inl (inl is)
        | inr there ↦ elim (more.0 there) [ inl left ↦ inl (inr left) | inr right ↦ inr right ]
      ],
      λ h. elim h [
        | inl left ↦ elim left [ inl is ↦ inl is | inr there ↦ inr (more.1 (inl there)) ]
        | inr right ↦ inr (more.1 (inr right))
      ],
    )

-- what holds of each item holds of one
pub all_has : {K : Type 0} → (P : K → Type 0) (xs : List K) (x : K) → AllByRecursion P xs → Has xs x → P x
all_has P [] x all has = absurd has
all_has P (y ∷ xs) x all (inl is) = subst P (sym is) all.0
all_has P (y ∷ xs) x all (inr there) = all_has P xs x all.1 there

-- and what holds of each that a list has holds of each item
pub has_all : {K : Type 0} → (P : K → Type 0) (xs : List K) → ((x : K) → Has xs x → P x) → AllByRecursion P xs
has_all P [] each = tt
has_all P (y ∷ xs) each = (each y (inl refl), has_all P xs (λ x there. each x (inr there)))

-- std's word for it
pub has_contained : {K : Type 0} → (xs : List K) (x : K) → Contains xs x → Has xs x
has_contained xs x at = has_at xs x at.0 at.1 at.2
  where
    has_at : {K : Type 0} → (xs : List K) (x : K) (k : ℕ) → k < length xs → slice_index_or xs k x ≡ x → Has xs x
    has_at [] x k below is = absurd (omega arith)
    has_at (y ∷ xs) x zero below is = inl (sym is)
    has_at (y ∷ xs) x (suc k) below is = inr (has_at xs x k (omega arith) is)

pub contains_had : {K : Type 0} → (xs : List K) (x : K) → Has xs x → Contains xs x
contains_had [] x has = absurd has
contains_had (y ∷ xs) x (inl is) = (zero, omega arith, sym is)
contains_had (y ∷ xs) x (inr there) =
    let at = contains_had xs x there in
    (suc at.0, omega (arith, at.1), at.2)

-- ---- what `put` and `ordered` have

has_placed : {K : Type 0} → (r : Ordering) (x y : K) (ys more : List K) (z : K) → (r ≡ Equal → x ≡ y)
    → (Has more z ↔ ((z ≡ x) ⊎ Has ys z)) → Has (placed r x y ys more) z ↔ ((z ≡ x) ⊎ ((z ≡ y) ⊎ Has ys z))
has_placed Less x y ys more z same put = (λ h. h, λ h. h)
has_placed Equal x y ys more z same put =
    (λ h. inr h, λ h. elim h [ inl is ↦ inl (is ∙ same refl) | inr there ↦ there ])
has_placed Greater x y ys more z same put = (
  λ h. elim h [
    | inl is ↦ inr (inl is)
    | inr there ↦ elim (put.0 there) [ inl is ↦ inl is | inr later ↦ inr (inr later) ]
  ],
  λ h. elim h [
    | inl is ↦ inr (put.1 (inl is))
    | inr there ↦ elim there [ inl is ↦ inl is | inr later ↦ inr (put.1 (inr later)) ]
  ],
)

all_placed : {K : Type 0} → (P : K → Type 0) (r : Ordering) (x y : K) (ys more : List K) → P x → P y
    → AllByRecursion P ys → AllByRecursion P more → AllByRecursion P (placed r x y ys more)
all_placed P Less x y ys more here next rest put = (here, (next, rest))
all_placed P Equal x y ys more here next rest put = (next, rest)
all_placed P Greater x y ys more here next rest put = (next, put)

pub all_put : {K : Type 0} → (R : K → K → Ordering) (P : K → Type 0) (x : K) (ys : List K) → P x
    → AllByRecursion P ys → AllByRecursion P (put R x ys)
all_put R P x [] here rest = (here, tt)
all_put R P x (y ∷ ys) here rest =
    all_placed P (R x y) x y ys (put R x ys) here rest.0 rest.1 (all_put R P x ys here rest.1)

-- what holds of each item still does in order
pub all_ordered : {K : Type 0} → (R : K → K → Ordering) (P : K → Type 0) (xs : List K) → AllByRecursion P xs
    → AllByRecursion P (ordered R xs)
all_ordered R P [] all = tt
all_ordered R P (x ∷ xs) all = all_put R P x (ordered R xs) all.0 (all_ordered R P xs all.1)

module _ {K : Type 0} {R : K → K → Ordering} (o : IsTotalOrder R) (exact : (x y : K) → R x y ≡ Equal → x ≡ y) where
  pub has_put : (x : K) (ys : List K) (z : K) → Has (put R x ys) z ↔ ((z ≡ x) ⊎ Has ys z)
  has_put x [] z = (λ h. h, λ h. h)
  has_put x (y ∷ ys) z = has_placed (R x y) x y ys (put R x ys) z (exact x y) (has_put x ys z)

  pub has_ordered : (xs : List K) → SameItems (ordered R xs) xs
  has_ordered [] z = (λ h. h, λ h. h)
  has_ordered (x ∷ xs) z =
      let here = has_put x (ordered R xs) z in
      let there = has_ordered xs z in (
        λ h. elim (here.0 h) [ inl is ↦ inl is | inr later ↦ inr (there.0 later) ],
        λ h. here.1 (elim h [ inl is ↦ inl is | inr later ↦ inr (there.1 later) ]),
      )

  placed_sorted : (r : Ordering) (x y : K) (ys : List K) → R x y ≡ r → IsStrictlySortedBy R (y ∷ ys)
      → IsStrictlySortedBy R (put R x ys) → IsStrictlySortedBy R (placed r x y ys (put R x ys))
  unfolding IsStrictlySortedBy
  placed_sorted Less x y ys is sorted more =
      let above : AllByRecursion (λ z. R x z ≡ Less) ys =
      all_weaker (λ z. R y z ≡ Less) (λ z. R x z ≡ Less) (λ z below. o.trans x y z is below) ys sorted.0 in
      ((is, above), sorted)
  placed_sorted Equal x y ys is sorted more = sorted
  placed_sorted Greater x y ys is sorted more =
      (all_put R (λ z. R y z ≡ Less) x ys (o.antisymm y x ∙ ap ordering_reverse is) sorted.0, more)

  rest_sorted : (y : K) (ys : List K) → IsStrictlySortedBy R (y ∷ ys) → IsStrictlySortedBy R ys
  unfolding IsStrictlySortedBy
  rest_sorted y ys sorted = sorted.1

  one_sorted : (x : K) → IsStrictlySortedBy R (x ∷ [])
  unfolding IsStrictlySortedBy
  one_sorted x = (tt, tt)

  none_sorted : IsStrictlySortedBy R []
  unfolding IsStrictlySortedBy
  none_sorted = tt

  pub put_sorted : (x : K) (ys : List K) → IsStrictlySortedBy R ys → IsStrictlySortedBy R (put R x ys)
  put_sorted x [] sorted = one_sorted x
  put_sorted x (y ∷ ys) sorted =
      placed_sorted (R x y) x y ys refl sorted (put_sorted x ys (rest_sorted y ys sorted))

  pub ordered_sorted : (xs : List K) → IsStrictlySortedBy R (ordered R xs)
  ordered_sorted [] = none_sorted
  ordered_sorted (x ∷ xs) = put_sorted x (ordered R xs) (ordered_sorted xs)

  -- ---- the one list in strict order

  not_below_itself : (x y : K) → R x y ≡ Less → x ≢ y
  not_below_itself x y below is =
      let tied : R x y ≡ Equal = ap (R x) (sym is) ∙ tied_itself o x in
      cc (below, tied)

  first_below : (y : K) (ys : List K) (x : K) → IsStrictlySortedBy R (y ∷ ys) → Has ys x → R y x ≡ Less
  unfolding IsStrictlySortedBy
  first_below y ys x sorted has = all_has (λ z. R y z ≡ Less) ys x sorted.0 has

  -- two firsts of one set are one
  one_first : (x y : K) (xs ys : List K) → IsStrictlySortedBy R (x ∷ xs) → IsStrictlySortedBy R (y ∷ ys)
      → SameItems (x ∷ xs) (y ∷ ys) → x ≡ y
  one_first x y xs ys left right same = elim ((same x).0 (inl refl)) [
    | inl is ↦ is
    | inr there ↦ elim ((same y).1 (inl refl)) [
      | inl is ↦ sym is
      | inr here ↦
          let above : R y x ≡ Less = first_below y ys x right there in
          let below : R x y ≡ Less = first_below x xs y left here in
          let turned : R y x ≡ Greater = o.antisymm y x ∙ ap ordering_reverse below in
          cc (above, turned)
    ]
  ]

  -- and so are the sets of what follows them
  rest_within : (x y : K) (xs ys : List K) → IsStrictlySortedBy R (x ∷ xs) → x ≡ y → (z : K)
      → (Has (x ∷ xs) z → Has (y ∷ ys) z) → Has xs z → Has ys z
  rest_within x y xs ys sorted first z from has = elim (from (inr has)) [
    | inl is ↦ absurd (not_below_itself x z (first_below x xs z sorted has) (first ∙ sym is))
    | inr there ↦ there
  ]

  -- two lists in strict order with the same items are one
  pub one_order : (xs ys : List K) → IsStrictlySortedBy R xs → IsStrictlySortedBy R ys → SameItems xs ys → xs ≡ ys
  one_order [] [] left right same = refl
  one_order [] (y ∷ ys) left right same = absurd ((same y).1 (inl refl))
  one_order (x ∷ xs) [] left right same = absurd ((same x).0 (inl refl))
  one_order (x ∷ xs) (y ∷ ys) left right same =
      let first : x ≡ y = one_first x y xs ys left right same in
      let rest : SameItems xs ys =
      λ z. (rest_within x y xs ys left first z (same z).0, rest_within y x ys xs right (sym first) z (same z).1) in
      ap₂ (λ a b. a ∷ b) first (one_order xs ys (rest_sorted x xs left) (rest_sorted y ys right) rest)

  -- a list in strict order with the items of another is that one's `ordered`
  pub ordered_is : (xs ys : List K) → IsStrictlySortedBy R ys → SameItems ys xs → ys ≡ ordered R xs
  ordered_is xs ys sorted same =
      one_order ys (ordered R xs) sorted (ordered_sorted xs)
      (same_then ys xs (ordered R xs) same (same_back (ordered R xs) xs (has_ordered xs)))

  -- one set has one order
  pub ordered_same : (xs ys : List K) → SameItems xs ys → ordered R xs ≡ ordered R ys
  ordered_same xs ys same =
      ordered_is ys (ordered R xs) (ordered_sorted xs) (same_then (ordered R xs) xs ys (has_ordered xs) same)

  -- and one order is of one set
  pub same_ordered : (xs ys : List K) → ordered R xs ≡ ordered R ys → SameItems xs ys
  same_ordered xs ys is z =
      let left = has_ordered xs z in
      let right = has_ordered ys z in (
        λ h. right.0 (subst (λ l. Has l z) is (left.1 h)),
        λ h. left.0 (subst (λ l. Has l z) (sym is) (right.1 h)),
      )

  -- what is joined may be put in order before
  pub ordered_joined : (xs ys : List K) → ordered R (ordered R xs ++ ordered R ys) ≡ ordered R (xs ++ ys)
  ordered_joined xs ys = ordered_same (ordered R xs ++ ordered R ys) (xs ++ ys) (λ z.
      let both = has_append (ordered R xs) (ordered R ys) z in
      let apart = has_append xs ys z in
      let left = has_ordered xs z in
      let right = has_ordered ys z in (
        λ h. apart.1 (elim (both.0 h) [ inl l ↦ inl (left.0 l) | inr r ↦ inr (right.0 r) ]),
        λ h. both.1 (elim (apart.0 h) [ inl l ↦ inl (left.1 l) | inr r ↦ inr (right.1 r) ]),
      ))

-- ---- lines

pub line_total : IsTotalOrder line_cmp
line_total = nat_list_cmp_total

pub line_exact : (a b : List ℕ) → line_cmp a b ≡ Equal → a ≡ b
line_exact a b is = (bytes_decides a b).0 (texts_ties a b ∙ ap is_eq is)

-- a sort, and what `dedup` leaves of it
pub sorted_once : (xs ys zs : List (List ℕ)) → IsPermutation xs ys → IsSorted line_cmp ys
    → zs ≡ dedup (pointwise nat_eq) ys → zs ≡ ordered line_cmp xs
sorted_once xs ys zs moved sorted is =
    let eq = pointwise nat_eq in
    let same : SameItems (dedup eq ys) xs = λ z. (
      λ h. has_contained xs z (Contains-permutation ys xs z (IsPermutation-sym xs ys moved)
          (Contains-from_dedup eq ys z (contains_had (dedup eq ys) z h))),
      λ h. has_contained (dedup eq ys) z (Contains-dedup nat_list_eq_equiv (λ a b. (bytes_decides a b).0) ys z
          (Contains-permutation xs ys z moved (contains_had xs z h))),
    ) in
    is ∙ ordered_is line_total line_exact xs (dedup eq ys) (IsStrictlySortedBy-dedup line_total texts_ties ys sorted) same

-- ---- values that are compared by the line that they show

dedup_from_seen : {X : Type 0} → (see : X → List ℕ) (E : List ℕ → List ℕ → Bool) (x : X) (xs : List X)
    → map see (dedup_from (λ a b. E (see a) (see b)) x xs) ≡ dedup_from E (see x) (map see xs)
dedup_from_seen see E x [] = refl
dedup_from_seen see E x (y ∷ xs) = elim (cases_Bool (E (see y) (see x))) [
  | inl same ↦ rw same (dedup_from_seen see E x xs)
  | inr other ↦ rw other (ap (λ l. see x ∷ l) (dedup_from_seen see E y xs))
]

dedup_seen : {X : Type 0} → (see : X → List ℕ) (E : List ℕ → List ℕ → Bool) (xs : List X)
    → map see (dedup (λ a b. E (see a) (see b)) xs) ≡ dedup E (map see xs)
dedup_seen see E [] = refl
dedup_seen see E (x ∷ xs) = dedup_from_seen see E x xs

sorted_seen : {X : Type 0} → (see : X → List ℕ) (xs : List X) → IsSorted (λ a b. line_cmp (see a) (see b)) xs
    → IsSorted line_cmp (map see xs)
sorted_seen see [] sorted k d low high = absurd (omega arith)
sorted_seen see (x ∷ xs) sorted k d low high =
    let long : length (map see (x ∷ xs)) ≡ length (x ∷ xs) = length-map (x ∷ xs) see in
    let last : k + 1 < length (x ∷ xs) = omega (arith, long, high) in
    let first : k < length (x ∷ xs) = omega (arith, last) in
    ap₂ (λ a b. is_lt (line_cmp a b)) (get_or-map see (x ∷ xs) (k + 1) x d last) (get_or-map see (x ∷ xs) k x d first)
    ∙ sorted k x low last

pub sorted_once_seen : {X : Type 0} → (see : X → List ℕ) (xs ys zs : List X) → IsPermutation xs ys
    → IsSorted (λ a b. line_cmp (see a) (see b)) ys → zs ≡ dedup (λ a b. pointwise nat_eq (see a) (see b)) ys
    → map see zs ≡ ordered line_cmp (map see xs)
sorted_once_seen see xs ys zs moved sorted is =
    sorted_once (map see xs) (map see ys) (map see zs) (IsPermutation-map see xs ys moved) (sorted_seen see ys sorted)
    (ap (map see) is ∙ dedup_seen see (pointwise nat_eq) ys)
