-- Two inventories of a source, merged.
use Rattle.std.proofs.Common.{◌≡◌, ℕ, List, [], ◌++◌, Ok, ◌∙◌, ap, ap₂}
use Rattle.std.specs.List.{AllByRecursion}
use Rattle.picky_text.proofs.ListLaws.{all_weaker}
use Rattle.picky_issuing.specs.Parts.{IsCut, HasNoMark}
use Rattle.picky_issuing.proofs.PartsLaws.{parts_where_marked, parts_where_unmarked}
use Rattle.picky_inventory.specs.Items.{Item, IsItem, item_line}
use Rattle.picky_inventory.specs.Merging.{or_empty, unless_bad, merged_or_bad, merging}
use Rattle.picky_inventory.specs.OrderedText.{IsWholeLine, merged, ordered_text}
use Rattle.picky_inventory.proofs.BadLineLaws.{items_are_inventory, no_bad_line}
use Rattle.picky_inventory.proofs.ItemLaws.{item_is_line}
use Rattle.picky_inventory.proofs.TextLaws.{merged_texts}

pub merged_where_cut : (text left right : List ℕ) → IsCut text left right → merging text ≡ merged_or_bad left right
merged_where_cut text left right is =
    let parts = parts_where_marked text left right is in
    ap₂ (λ a b. merged_or_bad (or_empty a) b) parts.0 parts.1

pub merged_where_uncut : (text : List ℕ) → HasNoMark text → merging text ≡ merged_or_bad [] text
merged_where_uncut text none =
    let parts = parts_where_unmarked text none in
    ap₂ (λ a b. merged_or_bad (or_empty a) b) parts.0 parts.1

whole_lines : (items : List Item) → AllByRecursion IsItem items → AllByRecursion (λ x. IsWholeLine (item_line x)) items
whole_lines items all = all_weaker IsItem (λ x. IsWholeLine (item_line x)) item_is_line items all

pub inventories_merged : (xs ys : List Item) → AllByRecursion IsItem xs → AllByRecursion IsItem ys
    → merged_or_bad (ordered_text item_line xs) (ordered_text item_line ys) ≡ Ok (ordered_text item_line (xs ++ ys))
inventories_merged xs ys left right =
    let a : List ℕ = ordered_text item_line xs in
    let b : List ℕ = ordered_text item_line ys in
    let fine = (no_bad_line a b).1 (items_are_inventory xs left, items_are_inventory ys right) in
    ap (λ k. unless_bad k (merged a b)) fine ∙ ap Ok (merged_texts item_line xs ys (whole_lines xs left) (whole_lines ys right))
