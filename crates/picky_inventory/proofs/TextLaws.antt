-- The laws of the texts of sets: they are equal where the sets are, and merging them joins the sets.
use Rattle.std.proofs.Common.{◌≡◌, ◌≢◌, ◌↔◌, ◌&&◌, ℕ, ◌+◌, Bool, true, List, [], ◌∷◌, ◌++◌, map, Option, Some, None}
use Rattle.std.proofs.Common.{Ordering, Less, Equal, Greater, AllPairs, refl, sym, ◌∙◌, ap, ap₂, arith, subst, inl, inr}
use Rattle.std.proofs.lemmas.Bool.{and_cases, and_from, and_parts, cases_Bool}
use Rattle.std.proofs.lemmas.Cmp.{tied_itself}
use Rattle.std.proofs.lemmas.List.{append_assoc, map-append}
use Rattle.std.proofs.lemmas.List.Elements.{All-from_recursion}
use Rattle.std.proofs.lemmas.List.Kept.{AllPairs-cons}
use Rattle.std.specs.List.{AllByRecursion, concat, flat_map}
use Rattle.std.specs.List.Sorted.{IsStrictlySortedBy}
use Rattle.std.specs.Ordering.{is_lt}
use Rattle.picky_text.proofs.ListLaws.{all_append, all_front, all_back, all_weaker}
use Rattle.picky_issuing.specs.Parts.{lines_with_ends}
use Rattle.picky_issuing.proofs.PartsLemmas.{lines_at_lf, lines_joined}
use Rattle.picky_inventory.specs.InOrder.{ordered, Has, SameItems, line_cmp}
use Rattle.picky_inventory.specs.OrderedText.{IsWholeLine, HasWholeLines, ordered_text, LinesTellApart, merged, follows, first_bad}
use Rattle.picky_inventory.specs.OrderedText.{IsFirstBad}
use Rattle.picky_inventory.proofs.OrderLaws.{same_back, has_all, has_append, all_ordered, has_ordered, ordered_sorted}
use Rattle.picky_inventory.proofs.OrderLaws.{ordered_is, ordered_same, same_ordered, ordered_joined, line_total, line_exact}

-- ---- lists

pub has_map : {A B : Type 0} → (f : A → B) (xs : List A) (x : A) → Has xs x → Has (map f xs) (f x)
has_map f [] x has = absurd has
has_map f (y ∷ xs) x (inl is) = inl (ap f is)
has_map f (y ∷ xs) x (inr there) = inr (has_map f xs x there)

pub has_mapped : {A B : Type 0} → (f : A → B) (xs : List A) (z : B) → Has (map f xs) z
    → (x : A) × Has xs x × (z ≡ f x)
has_mapped f [] z has = absurd has
has_mapped f (y ∷ xs) z (inl is) = (y, inl refl, is)
has_mapped f (y ∷ xs) z (inr there) =
    let found = has_mapped f xs z there in
    (found.0, inr found.1, found.2)

map_within : {A B : Type 0} → (f : A → B) (xs ys : List A) → ((x : A) → Has xs x → Has ys x) → (z : B)
    → Has (map f xs) z → Has (map f ys) z
map_within f xs ys within z has =
    let found = has_mapped f xs z has in
    subst (Has (map f ys)) (sym found.2) (has_map f ys found.0 (within found.0 found.1))

pub same_mapped : {A B : Type 0} → (f : A → B) (xs ys : List A) → SameItems xs ys → SameItems (map f xs) (map f ys)
same_mapped f xs ys same z =
    (map_within f xs ys (λ x. (same x).0) z, map_within f ys xs (λ x. (same x).1) z)

pub all_mapped : {A B : Type 0} → (f : A → B) (P : B → Type 0) (xs : List A) → AllByRecursion (λ x. P (f x)) xs
    → AllByRecursion P (map f xs)
all_mapped f P [] all = tt
all_mapped f P (x ∷ xs) all = (all.0, all_mapped f P xs all.1)

append_within : {K : Type 0} → (xs ys us vs : List K) (z : K) → (Has xs z → Has us z) → (Has ys z → Has vs z)
    → Has (xs ++ ys) z → Has (us ++ vs) z
append_within xs ys us vs z left right has =
    (has_append us vs z).1 (elim ((has_append xs ys z).0 has) [ inl l ↦ inl (left l) | inr r ↦ inr (right r) ])

pub same_append : {K : Type 0} → (xs ys us vs : List K) → SameItems xs us → SameItems ys vs
    → SameItems (xs ++ ys) (us ++ vs)
same_append xs ys us vs left right z =
    (append_within xs ys us vs z (left z).0 (right z).0, append_within us vs xs ys z (left z).1 (right z).1)

swap_within : {K : Type 0} → (xs ys : List K) (z : K) → Has (xs ++ ys) z → Has (ys ++ xs) z
swap_within xs ys z has =
    (has_append ys xs z).1 (elim ((has_append xs ys z).0 has) [ inl l ↦ inr l | inr r ↦ inl r ])

pub same_twice : {K : Type 0} → (xs : List K) → SameItems xs (xs ++ xs)
same_twice xs z = (
  λ h. (has_append xs xs z).1 (inl h),
  λ h. elim ((has_append xs xs z).0 h) [ inl l ↦ l | inr r ↦ r ],
)

-- ---- lines

-- whole lines that are joined are the lines of their text
pub lines_of_joined : (ls : List (List ℕ)) → AllByRecursion IsWholeLine ls → lines_with_ends (concat ls) ≡ ls
lines_of_joined [] all = refl
lines_of_joined (line ∷ ls) all =
    let front : List ℕ = all.0.front in
    let rest : List ℕ = concat ls in
    ap (λ l. lines_with_ends (l ++ rest)) all.0.is ∙ ap lines_with_ends (append_assoc front (10 ∷ []) rest)
    ∙ lines_at_lf front rest all.0.none ∙ ap₂ (λ a b. a ∷ b) (sym all.0.is) (lines_of_joined ls all.1)

abbrev pub AreWhole : {A : Type 0} → (A → List ℕ) → List A → Type 0
AreWhole line_of xs = AllByRecursion (λ x. IsWholeLine (line_of x)) xs

-- the lines of a text of items
pub lines_of_ordered : {A : Type 0} → (line_of : A → List ℕ) (xs : List A) → AreWhole line_of xs
    → lines_with_ends (ordered_text line_of xs) ≡ ordered line_cmp (map line_of xs)
lines_of_ordered line_of xs whole =
    lines_of_joined (ordered line_cmp (map line_of xs))
    (all_ordered line_cmp IsWholeLine (map line_of xs) (all_mapped line_of IsWholeLine xs whole))

-- they are in strict order, so none stands twice
pub text_sorted : {A : Type 0} → (line_of : A → List ℕ) (xs : List A) → AreWhole line_of xs
    → IsStrictlySortedBy line_cmp (lines_with_ends (ordered_text line_of xs))
text_sorted line_of xs whole =
    subst (IsStrictlySortedBy line_cmp) (sym (lines_of_ordered line_of xs whole))
    (ordered_sorted line_total line_exact (map line_of xs))

-- ---- texts of sets

-- one set has one text
pub text_of_set : {A : Type 0} → (line_of : A → List ℕ) (xs ys : List A) → SameItems xs ys
    → ordered_text line_of xs ≡ ordered_text line_of ys
text_of_set line_of xs ys same =
    ap concat (ordered_same line_total line_exact (map line_of xs) (map line_of ys) (same_mapped line_of xs ys same))

set_within : {A : Type 0} → (line_of : A → List ℕ) (xs ys : List A) → ((x y : A) → Has xs x → Has ys y
    → line_of x ≡ line_of y → x ≡ y) → SameItems (map line_of xs) (map line_of ys) → (x : A) → Has xs x → Has ys x
set_within line_of xs ys one same x has =
    let found = has_mapped line_of ys (line_of x) ((same (line_of x)).0 (has_map line_of xs x has)) in
    subst (Has ys) (sym (one x found.0 has found.1 found.2)) found.1

-- and one text is of one set
pub set_of_text : {A : Type 0} → (line_of : A → List ℕ) (xs ys : List A) → LinesTellApart line_of (xs ++ ys)
    → ordered_text line_of xs ≡ ordered_text line_of ys → SameItems xs ys
set_of_text {A} line_of xs ys tells is =
    let P : A → Type 0 = λ x. IsWholeLine (line_of x) in
    let left : AreWhole line_of xs = all_front P xs ys tells.whole in
    let right : AreWhole line_of ys = all_back P xs ys tells.whole in
    let orders : ordered line_cmp (map line_of xs) ≡ ordered line_cmp (map line_of ys) =
    sym (lines_of_ordered line_of xs left) ∙ ap lines_with_ends is ∙ lines_of_ordered line_of ys right in
    let same : SameItems (map line_of xs) (map line_of ys) =
    same_ordered line_total line_exact (map line_of xs) (map line_of ys) orders in
    λ x. (
      set_within line_of xs ys
          (λ a b in_xs in_ys. tells.one a b ((has_append xs ys a).1 (inl in_xs)) ((has_append xs ys b).1 (inr in_ys)))
          same x,
      set_within line_of ys xs
          (λ a b in_ys in_xs. tells.one a b ((has_append xs ys a).1 (inr in_ys)) ((has_append xs ys b).1 (inl in_xs)))
          (same_back (map line_of xs) (map line_of ys) same) x,
    )

pub text_is_of_its_set : {A : Type 0} → (line_of : A → List ℕ) (xs ys : List A) → LinesTellApart line_of (xs ++ ys)
    → (ordered_text line_of xs ≡ ordered_text line_of ys) ↔ SameItems xs ys
text_is_of_its_set line_of xs ys tells = (set_of_text line_of xs ys tells, text_of_set line_of xs ys)

-- items of a kind whose lines tell them apart
pub tells_each : {A : Type 0} → (line_of : A → List ℕ) (P : A → Type 0) → ((x : A) → P x → IsWholeLine (line_of x))
    → ((x y : A) → P x → P y → line_of x ≡ line_of y → x ≡ y) → (xs : List A) → ((x : A) → Has xs x → P x)
    → LinesTellApart line_of xs
tells_each line_of P line one xs all = record {
  whole = has_all (λ x. IsWholeLine (line_of x)) xs (λ x has. line x (all x has));
  one = λ x y in_x in_y. one x y (all x in_x) (all y in_y);
}

-- ---- merging

-- texts of two lists give the text of the lists joined
pub merged_texts : {A : Type 0} → (line_of : A → List ℕ) (xs ys : List A) → AreWhole line_of xs → AreWhole line_of ys
    → merged (ordered_text line_of xs) (ordered_text line_of ys) ≡ ordered_text line_of (xs ++ ys)
merged_texts line_of xs ys left right =
    ap₂ (λ a b. concat (ordered line_cmp (a ++ b))) (lines_of_ordered line_of xs left) (lines_of_ordered line_of ys right)
    ∙ ap concat (ordered_joined line_total line_exact (map line_of xs) (map line_of ys))
    ∙ ap (λ l. concat (ordered line_cmp l)) (sym (map-append line_of xs ys))

pub merged_either_way : (a b : List ℕ) → merged a b ≡ merged b a
merged_either_way a b =
    let left : List (List ℕ) = lines_with_ends a in
    let right : List (List ℕ) = lines_with_ends b in
    ap concat (ordered_same line_total line_exact (left ++ right) (right ++ left)
    (λ z. (swap_within left right z, swap_within right left z)))

-- the lines of what is merged
pub lines_of_merged : (a b : List ℕ) → HasWholeLines a → HasWholeLines b
    → lines_with_ends (merged a b) ≡ ordered line_cmp (lines_with_ends a ++ lines_with_ends b)
lines_of_merged a b left right =
    let both : List (List ℕ) = lines_with_ends a ++ lines_with_ends b in
    lines_of_joined (ordered line_cmp both)
    (all_ordered line_cmp IsWholeLine both (all_append IsWholeLine (lines_with_ends a) (lines_with_ends b) left right))

pub merged_in_any_order : (a b c : List ℕ) → HasWholeLines a → HasWholeLines b → HasWholeLines c
    → merged (merged a b) c ≡ merged a (merged b c)
merged_in_any_order a b c first second third =
    let R = line_cmp in
    let xs : List (List ℕ) = lines_with_ends a in
    let ys : List (List ℕ) = lines_with_ends b in
    let zs : List (List ℕ) = lines_with_ends c in
    let left : SameItems (ordered R (xs ++ ys) ++ zs) ((xs ++ ys) ++ zs) =
    same_append (ordered R (xs ++ ys)) zs (xs ++ ys) zs (has_ordered line_total line_exact (xs ++ ys))
    (λ z. (λ h. h, λ h. h)) in
    let right : SameItems (xs ++ ordered R (ys ++ zs)) (xs ++ (ys ++ zs)) =
    same_append xs (ordered R (ys ++ zs)) xs (ys ++ zs) (λ z. (λ h. h, λ h. h))
    (has_ordered line_total line_exact (ys ++ zs)) in
    ap (λ l. concat (ordered R (l ++ zs))) (lines_of_merged a b first second)
    ∙ ap concat (ordered_same line_total line_exact (ordered R (xs ++ ys) ++ zs) ((xs ++ ys) ++ zs) left)
    ∙ ap (λ l. concat (ordered R l)) (append_assoc xs ys zs)
    ∙ ap concat (ordered_same line_total line_exact (xs ++ (ys ++ zs)) (xs ++ ordered R (ys ++ zs))
    (same_back (xs ++ ordered R (ys ++ zs)) (xs ++ (ys ++ zs)) right))
    ∙ ap (λ l. concat (ordered R (xs ++ l))) (sym (lines_of_merged b c second third))

-- a text in order, with itself
pub merged_with_itself : (a : List ℕ) → IsStrictlySortedBy line_cmp (lines_with_ends a) → merged a a ≡ a
merged_with_itself a sorted =
    let xs : List (List ℕ) = lines_with_ends a in
    ap concat (sym (ordered_is line_total line_exact (xs ++ xs) xs sorted (same_twice xs))) ∙ lines_joined a

-- what is merged is in strict order
pub merged_sorted : (a b : List ℕ) → HasWholeLines a → HasWholeLines b
    → IsStrictlySortedBy line_cmp (lines_with_ends (merged a b))
merged_sorted a b left right =
    subst (IsStrictlySortedBy line_cmp) (sym (lines_of_merged a b left right))
    (ordered_sorted line_total line_exact (lines_with_ends a ++ lines_with_ends b))

-- ---- lines that are refused

less_from : (r : Ordering) → is_lt r ≡ true → r ≡ Less
less_from Less is = refl
less_from Equal is = cc is
less_from Greater is = cc is

-- what comes after a line is greater than it
abbrev AreAfter : Option (List ℕ) → List (List ℕ) → Type 0
AreAfter None lines = Unit {0}
AreAfter (Some before) lines = AllByRecursion (λ line. line_cmp before line ≡ Less) lines

first_follows : (before : Option (List ℕ)) (line : List ℕ) (more : List (List ℕ)) → AreAfter before (line ∷ more)
    → follows before line ≡ true
first_follows None line more after = refl
first_follows (Some before) line more after = ap is_lt after.0

all_after : (before : Option (List ℕ)) (line : List ℕ) (more : List (List ℕ)) → follows before line ≡ true
    → AllByRecursion (λ l. line_cmp line l ≡ Less) more → AreAfter before (line ∷ more)
all_after None line more next after = tt
all_after (Some before) line more next after =
    let below : line_cmp before line ≡ Less = less_from (line_cmp before line) next in (
      below,
      all_weaker (λ l. line_cmp line l ≡ Less) (λ l. line_cmp before l ≡ Less)
          (λ l above. line_total.trans before line l below above) more after,
    )

abbrev pub AreItems : (List ℕ → Bool) → List (List ℕ) → Type 0
AreItems is_item lines = AllByRecursion (λ line. is_item line ≡ true) lines

none_bad_after : (is_item : List ℕ → Bool) (n : ℕ) (before : Option (List ℕ)) (lines : List (List ℕ))
    → AreItems is_item lines → IsStrictlySortedBy line_cmp lines → AreAfter before lines
    → first_bad is_item n before lines ≡ None
unfolding IsStrictlySortedBy
none_bad_after is_item n before [] items sorted after = refl
none_bad_after is_item n before (line ∷ more) items sorted after =
    rw (and_from (is_item line) (follows before line) items.0 (first_follows before line more after))
    (none_bad_after is_item (n + 1) (Some line) more items.1 sorted.1 sorted.0)

record AreGood (is_item : List ℕ → Bool) (before : Option (List ℕ)) (lines : List (List ℕ)) : Type 0 where
  items : AreItems is_item lines
  sorted : IsStrictlySortedBy line_cmp lines
  after : AreAfter before lines

good_more : (is_item : List ℕ → Bool) (before : Option (List ℕ)) (line : List ℕ) (more : List (List ℕ))
    → (is_item line && follows before line) ≡ true → AreGood is_item (Some line) more → AreGood is_item before (line ∷ more)
unfolding IsStrictlySortedBy
good_more is_item before line more is rest =
    let both = and_parts (is_item line) (follows before line) is in
    record {
      items = (both.0, rest.items);
      sorted = (rest.after, rest.sorted);
      after = all_after before line more both.1 rest.after;
    }

good_none : (is_item : List ℕ → Bool) (before : Option (List ℕ)) → AreGood is_item before []
unfolding IsStrictlySortedBy
good_none is_item None = record { items = tt; sorted = tt; after = tt }
good_none is_item (Some before) = record { items = tt; sorted = tt; after = tt }

good_from : (is_item : List ℕ → Bool) (n : ℕ) (before : Option (List ℕ)) (lines : List (List ℕ))
    → first_bad is_item n before lines ≡ None → AreGood is_item before lines
good_from is_item n before [] is = good_none is_item before
good_from is_item n before (line ∷ more) is = elim (cases_Bool (is_item line && follows before line)) [
  | inl good ↦ good_more is_item before line more good (good_from is_item (n + 1) (Some line) more (rw good at is))
  | inr bad ↦ cc (rw bad at is)
]

-- no line is refused exactly where each is an item's and they are in strict order
pub no_bad : (is_item : List ℕ → Bool) (n : ℕ) (lines : List (List ℕ))
    → (first_bad is_item n None lines ≡ None) ↔ (AreItems is_item lines × IsStrictlySortedBy line_cmp lines)
no_bad is_item n lines = (
  λ is. let good = good_from is_item n None lines is in (good.items, good.sorted),
  λ good. none_bad_after is_item n None lines good.0 good.1 tt,
)

-- ---- no line stands twice

not_less_than_itself : (a b : List ℕ) → line_cmp a b ≡ Less → a ≢ b
not_less_than_itself a b below is =
    let tied : line_cmp a b ≡ Equal = ap (line_cmp a) (sym is) ∙ tied_itself line_total a in
    cc (below, tied)

pub sorted_once_each : (ls : List (List ℕ)) → IsStrictlySortedBy line_cmp ls → AllPairs (λ a b. a ≢ b) ls
unfolding IsStrictlySortedBy
sorted_once_each [] sorted = λ i j d before below. absurd (omega (arith, before, below))
sorted_once_each (x ∷ ls) sorted =
    let R : List ℕ → List ℕ → Type 0 = λ a b. a ≢ b in
    let others : AllByRecursion (R x) ls =
    all_weaker (λ b. line_cmp x b ≡ Less) (R x) (λ b. not_less_than_itself x b) ls sorted.0 in
    AllPairs-cons R x ls (All-from_recursion (R x) ls others) (sorted_once_each ls sorted.1)

pub text_once : {A : Type 0} → (line_of : A → List ℕ) (xs : List A) → AreWhole line_of xs
    → AllPairs (λ a b. a ≢ b) (lines_with_ends (ordered_text line_of xs))
text_once line_of xs whole =
    sorted_once_each (lines_with_ends (ordered_text line_of xs)) (text_sorted line_of xs whole)

-- ---- the first line that is refused

pub first_is_bad : (is_item : List ℕ → Bool) (n : ℕ) (before : Option (List ℕ)) (lines : List (List ℕ)) (k : ℕ)
    → first_bad is_item n before lines ≡ Some k → IsFirstBad is_item n before lines k
first_is_bad is_item n before [] k is = cc is
first_is_bad is_item n before (line ∷ more) k is = elim (cases_Bool (is_item line && follows before line)) [
  | inl good ↦
      let later = first_is_bad is_item (n + 1) (Some line) more k (rw good at is) in
      record {
        front = line ∷ later.front;
        line = later.line;
        rest = later.rest;
        whole = ap (λ l. line ∷ l) later.whole;
        number = omega (arith, later.number);
        good = rw good later.good;
        bad = later.bad;
      }
  | inr bad ↦
      let here : n ≡ k = cc (rw bad at is) in
      record {
        front = [];
        line = line;
        rest = more;
        whole = refl;
        number = omega (arith, here);
        good = refl;
        bad = and_cases (is_item line) (follows before line) bad;
      }
]

-- ---- how two texts are merged

pub joined_is : {X : Type 0} → (see : X → List ℕ) (xs : List X) → flat_map see xs ≡ concat (map see xs)
joined_is see [] = refl
joined_is see (x ∷ xs) = ap (λ l. see x ++ l) (joined_is see xs)

-- by the lines of one, then of the other, in order, joined
pub merged_by : {X : Type 0} → (see : X → List ℕ) (none first both sorted : List X) (a b written : List ℕ) → none ≡ []
    → map see first ≡ map see none ++ lines_with_ends a → map see both ≡ map see first ++ lines_with_ends b
    → map see sorted ≡ ordered line_cmp (map see both) → written ≡ flat_map see sorted → written ≡ merged a b
merged_by see none first both sorted a b written empty left right order is =
    let front : map see first ≡ lines_with_ends a = left ∙ ap (λ l. map see l ++ lines_with_ends a) empty in
    let all : map see both ≡ lines_with_ends a ++ lines_with_ends b = right ∙ ap (λ l. l ++ lines_with_ends b) front in
    is ∙ joined_is see sorted ∙ ap concat order ∙ ap (λ l. concat (ordered line_cmp l)) all
