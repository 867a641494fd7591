-- What a list of parts gives: the lines of their items, or the first part that isn't read.
use Rattle.std.specs.Prelude.{◌≡◌, ◌⊎◌, ℕ, false, List, map, Option, Some, Result, Ok, Err, slice_get, take}
use Rattle.std.specs.List.{AllByRecursion}
use Rattle.picky_wire_base.specs.Outcome.{map_ok}
use Rattle.picky_suite.specs.Failures.{IsAskedFault}
use Rattle.picky_key_text.specs.Order.{asks, fault_of}
use Rattle.picky_key_text.specs.Reader.{Reader}
use Rattle.picky_key_text.specs.declared.error.ReadError.{ReadError}
use Rattle.picky_key_text.specs.declared.error.ReadError.TheVariants as errors
use Rattle.picky_inventory.specs.Items.{item_line, items_from}
use Rattle.picky_inventory.specs.OrderedText.{ordered_text}
use Rattle.picky_inventory.specs.Parted.{text_parts}
use Rattle.picky_inventory.specs.declared.listing.Unread.{Unread}

-- the lines of the items, counted on from n
abbrev pub lines_from : Reader → (n : ℕ) (parts : List (List ℕ)) → Result (List (List ℕ)) (ℕ × ReadError)
lines_from r n parts = map_ok (map item_line) (items_from r n parts)

-- the parts before number n are read or blank, and the suite was asked of that one and failed
pub record FaultAt (r : Reader) (parts : List (List ℕ)) (n : ℕ) (e : ReadError) (rose : Type 0) : Type 0 where
  pub part : List ℕ
  pub here : slice_get parts n ≡ Some part
  pub fault : e ≡ fault_of part
  pub asked : IsAskedFault (asks r.pass part) rose
  pub lines : List (List ℕ)
  pub before : lines_from r 0 (take n parts) ≡ Ok lines

-- all lines, or want of memory, or the suite's fault, or the first part that isn't read
abbrev pub GivesLines : {X : Type 0} → (X → List ℕ) → Reader → (parts : List (List ℕ)) (rose : Type 0)
    → Result (List X) Unread → Type 0
GivesLines view r parts rose (Ok lines) = lines_from r 0 parts ≡ Ok (map view lines)
GivesLines view r parts rose (Err unread) =
    (unread.error ≡ errors.NoMemory) ⊎ FaultAt r parts unread.part unread.error rose
    ⊎ (lines_from r 0 parts ≡ Err (unread.part, unread.error))

-- the inventory of a list of texts: the lines of the set of its items
abbrev pub inventory_of : Reader → (list : List (List ℕ)) → Result (List ℕ) (ℕ × ReadError)
inventory_of r list = map_ok (ordered_text item_line) (items_from r 0 list)

-- that of the parts of a text
abbrev pub inventory : Reader → (text : List ℕ) → Result (List ℕ) (ℕ × ReadError)
inventory r text = inventory_of r (text_parts text)

-- no text of a list is sealed with what a passphrase opens
abbrev pub NoneAsks : (pass : Option (List ℕ)) (list : List (List ℕ)) → Type 0
NoneAsks pass list = AllByRecursion (λ text. asks pass text ≡ false) list

-- its text, or want of memory, or the suite's fault, or the first part that isn't read
abbrev pub GivesInventory : Reader → (text : List ℕ) (rose : Type 0) → Result (List ℕ) Unread → Type 0
GivesInventory r text rose (Ok written) = inventory r text ≡ Ok written
GivesInventory r text rose (Err unread) =
    (unread.error ≡ errors.NoMemory) ⊎ FaultAt r (text_parts text) unread.part unread.error rose
    ⊎ (inventory r text ≡ Err (unread.part, unread.error))
