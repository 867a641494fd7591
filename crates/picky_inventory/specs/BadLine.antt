-- The first line of two inventories that is refused, counted from 1 over the one and then the other.
use Rattle.std.specs.Prelude.{◌≡◌, ◌+◌, ℕ, List, length, Option, Some, None}
use Rattle.std.specs.List.{AllByRecursion}
use Rattle.std.specs.List.Sorted.{IsStrictlySortedBy}
use Rattle.picky_issuing.specs.Parts.{lines_with_ends}
use Rattle.picky_inventory.specs.InOrder.{line_cmp}
use Rattle.picky_inventory.specs.ItemLine.{is_item_line}
use Rattle.picky_inventory.specs.Items.{Item, IsItem, item_line}
use Rattle.picky_inventory.specs.OrderedText.{first_bad}

-- the first number, or else the other
abbrev pub or_else : (first other : Option ℕ) → Option ℕ
or_else None other = other
or_else (Some k) other = Some k

-- the first bad line of a text whose lines are counted on from n
abbrev pub bad_from : (n : ℕ) (text : List ℕ) → Option ℕ
bad_from n text = first_bad is_item_line n None (lines_with_ends text)

-- each text begins anew: its first line follows none
abbrev pub bad_line : (left right : List ℕ) → Option ℕ
bad_line left right = or_else (bad_from 1 left) (bad_from (1 + length (lines_with_ends left)) right)

abbrev pub IsItemLine : (line : List ℕ) → Type 0
IsItemLine line = (item : Item) × IsItem item × (line ≡ item_line item)

-- each line is an item's, so it has its LF, and is greater than the one before it
pub record IsInventory (text : List ℕ) : Type 0 where
  pub items : AllByRecursion IsItemLine (lines_with_ends text)
  pub sorted : IsStrictlySortedBy line_cmp (lines_with_ends text)
