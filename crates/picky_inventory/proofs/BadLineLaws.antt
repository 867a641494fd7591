-- The first line that is refused, found line by line.
use Rattle.std.proofs.Common.{◌≡◌, ◌+◌, ◌-◌, ◌<◌, ◌≤◌, ◌&&◌, ℕ, suc, Bool, true, false, List, [], ◌∷◌, ◌++◌, length, map, take, drop}
use Rattle.std.proofs.Common.{Option, Some, None, get_or, refl, sym, ◌∙◌, ap, arith, inl, inr, drop-cons, take-append-drop}
use Rattle.std.proofs.lemmas.Bool.{cases_Bool}
use Rattle.std.proofs.lemmas.List.{length-map, length-take, map-append, map_more}
use Rattle.std.proofs.Common.{◌↔◌, ap₂, subst}
use Rattle.std.specs.List.{AllByRecursion, concat}
use Rattle.picky_text.proofs.ListLaws.{all_weaker}
use Rattle.picky_issuing.specs.Parts.{lines_with_ends}
use Rattle.picky_issuing.proofs.PartsLemmas.{lines_joined}
use Rattle.picky_inventory.specs.BadLine.{or_else, bad_from, bad_line, IsItemLine, IsInventory}
use Rattle.picky_inventory.specs.InOrder.{ordered, line_cmp}
use Rattle.picky_inventory.specs.ItemLine.{is_item_line}
use Rattle.picky_inventory.specs.Items.{Item, IsItem, item_line}
use Rattle.picky_inventory.specs.OrderedText.{IsWholeLine, HasWholeLines, ordered_text, first_bad, follows, last_before}
use Rattle.picky_inventory.proofs.ItemLaws.{item_is_line}
use Rattle.picky_inventory.proofs.ItemLineLaws.{item_line_is, passed_is_item}
use Rattle.picky_inventory.proofs.OrderLaws.{all_ordered, line_exact, line_total, ordered_is}
use Rattle.picky_inventory.proofs.TextLaws.{all_mapped, lines_of_ordered, no_bad, text_sorted}

-- ---- after lines that aren't refused

-- what follows them decides
first_bad_behind : (is_item : List ℕ → Bool) (n : ℕ) (before : Option (List ℕ)) (front rest : List (List ℕ))
    → first_bad is_item n before front ≡ None
    → first_bad is_item n before (front ++ rest) ≡ first_bad is_item (n + length front) (last_before before front) rest
first_bad_behind is_item n before [] rest good =
    let at : n ≡ n + 0 = omega arith in
    ap (λ k. first_bad is_item k before rest) at
first_bad_behind is_item n before (line ∷ front) rest good = elim (cases_Bool (is_item line && follows before line)) [
  | inl fine ↦
      let at : n + 1 + length front ≡ n + length (line ∷ front) = omega arith in
      rw fine (first_bad_behind is_item (n + 1) (Some line) front rest (rw fine at good)
      ∙ ap (λ k. first_bad is_item k (last_before (Some line) front) rest) at)
  | inr bad ↦ cc (rw bad at good)
]

last_is : (before : Option (List ℕ)) (front : List (List ℕ)) (line : List ℕ)
    → last_before before (front ++ line ∷ []) ≡ Some line
last_is before [] line = refl
last_is before (x ∷ front) line = last_is (Some x) front line

-- ---- the line at a place

module _ {A : Type 0} (see : A → List ℕ) (lines : List A) (i : ℕ) (d : A) (below : i < length lines) where
  long : length (map see (take i lines)) ≡ i
  long = omega (arith, below, length-map (take i lines) see, length-take i lines)

  line_at : map see lines ≡ map see (take i lines) ++ see (get_or lines i d) ∷ map see (drop (suc i) lines)
  line_at =
      ap (map see) (sym (take-append-drop i lines)) ∙ map-append see (take i lines) (drop i lines)
      ∙ ap (λ l. map see (take i lines) ++ map see l) (drop-cons lines i d below)

  -- it is refused
  pub bad_here : (is_item : List ℕ → Bool) (n : ℕ) → first_bad is_item n None (map see (take i lines)) ≡ None
      → (is_item (see (get_or lines i d)) && follows (last_before None (map see (take i lines))) (see (get_or lines i d)))
      ≡ false
      → Some (n + i) ≡ first_bad is_item n None (map see lines)
  bad_here is_item n good bad =
      let front : List (List ℕ) = map see (take i lines) in
      let line : List ℕ = see (get_or lines i d) in
      let rest : List (List ℕ) = map see (drop (suc i) lines) in
      let stops : first_bad is_item (n + length front) (last_before None front) (line ∷ rest) ≡ Some (n + length front) =
      rw bad refl in
      ap (λ k. Some (n + k)) (sym long)
      ∙ sym (ap (first_bad is_item n None) line_at ∙ first_bad_behind is_item n None front (line ∷ rest) good ∙ stops)

  -- or it isn't
  pub good_here : (is_item : List ℕ → Bool) (n : ℕ) → first_bad is_item n None (map see (take i lines)) ≡ None
      → (is_item (see (get_or lines i d)) && follows (last_before None (map see (take i lines))) (see (get_or lines i d)))
      ≡ true
      → first_bad is_item n None (map see (take (i + 1) lines)) ≡ None
  good_here is_item n good fine =
      let front : List (List ℕ) = map see (take i lines) in
      let line : List ℕ = see (get_or lines i d) in
      let goes_on : first_bad is_item (n + length front) (last_before None front) (line ∷ []) ≡ None = rw fine refl in
      ap (first_bad is_item n None) (map_more see lines i d below)
      ∙ first_bad_behind is_item n None front (line ∷ []) good ∙ goes_on

  before_next : last_before None (map see (take (i + 1) lines)) ≡ Some (see (get_or lines i d))
  before_next =
      ap (last_before None) (map_more see lines i d below)
      ∙ last_is None (map see (take i lines)) (see (get_or lines i d))

-- the line before a place
pub before_place : {A : Type 0} → (see : A → List ℕ) (lines : List A) (i : ℕ) (d : A) → 0 < i → i ≤ length lines
    → Some (see (get_or lines (i - 1) d)) ≡ last_before None (map see (take i lines))
before_place see lines i d some short =
    let at : i - 1 + 1 ≡ i = omega (arith, some) in
    sym (before_next see lines (i - 1) d (omega (arith, some, short)))
    ∙ ap (λ k. last_before None (map see (take k lines))) at

-- ---- without a bad line

none_of_both : (a b : Option ℕ) → or_else a b ≡ None → (a ≡ None) × (b ≡ None)
none_of_both None b is = (refl, is)
none_of_both (Some k) b is = cc is

good_text : (n : ℕ) (text : List ℕ) → bad_from n text ≡ None → IsInventory text
good_text n text is =
    let good = (no_bad is_item_line n (lines_with_ends text)).0 is in
    record {
      items =
          all_weaker (λ line. is_item_line line ≡ true) IsItemLine passed_is_item (lines_with_ends text) good.0;
      sorted = good.1;
    }

text_is_good : (n : ℕ) (text : List ℕ) → IsInventory text → bad_from n text ≡ None
text_is_good n text is =
    (no_bad is_item_line n (lines_with_ends text)).1 (
      all_weaker IsItemLine (λ line. is_item_line line ≡ true) (λ line found. (item_line_is line).1 found)
          (lines_with_ends text) is.items,
      is.sorted,
    )

-- both texts are inventories
pub no_bad_line : (left right : List ℕ) → (bad_line left right ≡ None) ↔ (IsInventory left × IsInventory right)
no_bad_line left right =
    let next : ℕ = 1 + length (lines_with_ends left) in (
      λ is.
          let both = none_of_both (bad_from 1 left) (bad_from next right) is in
          (good_text 1 left both.0, good_text next right both.1),
      λ both. ap (λ k. or_else k (bad_from next right)) (text_is_good 1 left both.0) ∙ text_is_good next right both.1,
    )

-- ---- an inventory is the text of a list

-- each of its lines has its LF
pub inventory_is_whole : (text : List ℕ) → IsInventory text → HasWholeLines text
inventory_is_whole text is =
    all_weaker IsItemLine IsWholeLine (λ line found. subst IsWholeLine (sym found.2) (item_is_line found.0 found.1))
    (lines_with_ends text) is.items

items_of_lines : (lines : List (List ℕ)) → AllByRecursion IsItemLine lines
    → (items : List Item) × AllByRecursion IsItem items × (lines ≡ map item_line items)
items_of_lines [] all = ([], tt, refl)
items_of_lines (line ∷ lines) all =
    let more = items_of_lines lines all.1 in
    (all.0.0 ∷ more.0, (all.0.1, more.1), ap₂ (λ a b. a ∷ b) all.0.2 more.2)

pub inventory_has_items : (text : List ℕ) → IsInventory text
    → (items : List Item) × AllByRecursion IsItem items × (text ≡ ordered_text item_line items)
inventory_has_items text is =
    let lines : List (List ℕ) = lines_with_ends text in
    let found = items_of_lines lines is.items in
    let order : lines ≡ ordered line_cmp lines =
    ordered_is line_total line_exact lines lines is.sorted (λ z. (λ h. h, λ h. h)) in (
      found.0,
      found.1,
      sym (lines_joined text) ∙ ap concat (order ∙ ap (ordered line_cmp) found.2),
    )

-- and the text of a list of items is one
pub items_are_inventory : (items : List Item) → AllByRecursion IsItem items → IsInventory (ordered_text item_line items)
items_are_inventory items all =
    let whole = all_weaker IsItem (λ x. IsWholeLine (item_line x)) item_is_line items all in
    record {
      items =
          subst (AllByRecursion IsItemLine) (sym (lines_of_ordered item_line items whole))
          (all_ordered line_cmp IsItemLine (map item_line items)
          (all_mapped item_line IsItemLine items
          (all_weaker IsItem (λ x. IsItemLine (item_line x)) (λ x is. (x, is, refl)) items all)));
      sorted = text_sorted item_line items whole;
    }
