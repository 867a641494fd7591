-- A run: what it writes for the bytes of its source, and how it ends.
use Rattle.std.specs.Prelude.{◌≡◌, ◌↔◌, ◌⊎◌, ◌++◌, ℕ, false, List, codes, Option, Some, Result, Ok, Err}
use Rattle.std.specs.Option.{IfSome}
use Rattle.std.specs.List.{AllByRecursion}
use Rattle.std.specs.Str.{IsUtf8}
use Rattle.std.specs.Option.{option_copied}
use denote.Ref.{Bor}
use Rattle.picky_wire_base.specs.Outcome.{and_then, map_err}
use Rattle.picky_wire.specs.Puts.{Puts}
use Rattle.picky_wire.specs.declared.error.WireError.{WireError}
use Rattle.picky_wire.specs.declared.error.WireError.TheVariants as wire
use Rattle.picky_suite.specs.Meanings.{Meanings}
use Rattle.picky_input.specs.Extent.{Extent, Untouched, ToFault, PastLimit, ToEnd, Anywhere, WritesPrefix}
use Rattle.picky_input.specs.SourceText.{IsSourceText, source_text_of}
use Rattle.picky_input.specs.declared.source_text.SourceError.{SourceError}
use Rattle.picky_input.specs.declared.source_text.SourceError.TheVariants as source
use Rattle.picky_key_text.specs.Order.{asks}
use Rattle.picky_key_text.specs.Reader.{Reader}
use Rattle.picky_key_text.specs.declared.error.ReadError.{ReadError}
use Rattle.picky_inventory.specs.declared.command.Command.{Command}
use Rattle.picky_inventory.specs.declared.command.Command.TheVariants as commands
use Rattle.picky_inventory.specs.declared.status.InventoryStatus.{InventoryStatus}
use Rattle.picky_inventory.specs.declared.status.InventoryStatus.TheVariants as statuses
use Rattle.picky_inventory.specs.declared.merging.Unmerged.{Unmerged}
use Rattle.picky_inventory.specs.declared.merging.Unmerged.TheVariants as merges
use Rattle.picky_inventory.specs.InOrder.{SameItems}
use Rattle.picky_inventory.specs.Items.{Item, item_line, items_from}
use Rattle.picky_inventory.specs.Listing.{FaultAt, NoneAsks, inventory, inventory_of}
use Rattle.picky_inventory.specs.Merging.{left_part, merging, right_part}
use Rattle.picky_inventory.specs.OrderedText.{ordered_text}
use Rattle.picky_inventory.specs.Parted.{text_parts}

-- the line that says which words there are
unfoldable pub usage_line : List ℕ
usage_line = codes "usage: keyinventory list|merge\n"

-- texts are read by what the suite's calls mean, and under the passphrase, where there is one
abbrev pub reader : Meanings → (pass : Option (Bor (List ℕ))) → Reader
reader m pass = record { meanings = m; pass = option_copied pass }

-- ---- what a text comes to

-- the number of the first part that isn't read, and why
abbrev pub part_refusal : ℕ × ReadError → InventoryStatus
part_refusal unread = statuses.Refused unread.0 unread.1

-- why two inventories aren't merged
abbrev pub unmerged_status : Unmerged → InventoryStatus
unmerged_status (merges.BadLine line) = statuses.BadLine line
unmerged_status merges.NoMemory = statuses.NoMemory

-- what the command writes for a text, or the status that says why it writes nothing
abbrev pub answer : Reader → Command → (text : List ℕ) → Result (List ℕ) InventoryStatus
answer r commands.Listing text = map_err part_refusal (inventory r text)
answer r commands.Merging text = map_err unmerged_status (merging text)

-- ---- what the bytes of a source come to

abbrev pub source_status : SourceError → InventoryStatus
source_status source.ReadFault = statuses.ReadFault
source_status source.InputTooLong = statuses.InputTooLong
source_status source.InputNotUtf8 = statuses.InputNotUtf8
source_status source.NoMemory = statuses.NoMemory

-- what the command writes for these bytes, or the status that says why it writes nothing
unfoldable pub outcome : Reader → Command → (input : List ℕ) → Result (List ℕ) InventoryStatus
outcome r command input = and_then (map_err source_status (source_text_of input)) (answer r command)

-- the suite failed at a part that it was asked for, and all parts before that are read; it isn't asked to merge
abbrev pub IsFaultOf : Reader → Command → (text : List ℕ) (rose : Type 0) → Type 0
IsFaultOf r commands.Listing text rose = (n : ℕ) × (e : ReadError) × FaultAt r (text_parts text) n e rose
IsFaultOf r commands.Merging text rose = ⊥

pub record IsOutsideFault (r : Reader) (command : Command) (input : List ℕ) (rose : Type 0) : Type 0 where
  pub text : IsSourceText input
  pub fault : IsFaultOf r command input rose

-- ---- what Done means

-- what the command writes for these bytes was written after those
pub record WritesAnswer (r : Reader) (command : Command) (input before after : List ℕ) : Type 0 where
  pub text : List ℕ
  pub is_answer : outcome r command input ≡ Ok text
  pub written : after ≡ before ++ text

-- what stands before a source's first line `%%`, and what follows it, are the inventories of two lists of texts; without
-- such a line nothing stands before it, which is the inventory of no text
pub record IsOfLists (r : Reader) (one other : List (List ℕ)) (input : List ℕ) : Type 0 where
  pub pass : IfSome r.pass IsUtf8
  pub one_utf8 : AllByRecursion IsUtf8 one
  pub other_utf8 : AllByRecursion IsUtf8 other
  pub left : inventory_of r one ≡ Ok (left_part input)
  pub right : inventory_of r other ≡ Ok (right_part input)

-- what was written is the text of these items exactly where they are the set of those of the source
pub record WritesSet (r : Reader) (input : List ℕ) (others : List Item) (before after : List ℕ) : Type 0 where
  pub items : List Item
  pub are : items_from r 0 (text_parts input) ≡ Ok items
  pub same : (after ≡ before ++ ordered_text item_line others) ↔ SameItems items others

-- the inventory of a list was written
pub record WritesInventory (r : Reader) (list : List (List ℕ)) (before after : List ℕ) : Type 0 where
  pub text : List ℕ
  pub is_inventory : inventory_of r list ≡ Ok text
  pub written : after ≡ before ++ text

-- ---- how a run ends

-- what a status says of a run over these bytes: Done that the answer was written, to a sink that tells; WriteFault that a prefix
-- of it was, up to a fault that was counted; and any other why nothing was. Memory may run out at any time, and no command ends
-- in Usage
abbrev pub Ends : Reader → Command → (input : List ℕ) (read_rose suite_rose write_rose tells : Type 0) (before after : List ℕ)
    → InventoryStatus → Type 0
Ends r command input read_rose suite_rose write_rose tells before after statuses.Done =
    (text : List ℕ) × (outcome r command input ≡ Ok text) × (tells → after ≡ before ++ text)
Ends r command input read_rose suite_rose write_rose tells before after statuses.WriteFault =
    write_rose × (text : List ℕ) × (outcome r command input ≡ Ok text)
    × (tells → WritesPrefix text before after)
Ends r command input read_rose suite_rose write_rose tells before after statuses.Usage = ⊥
Ends r command input read_rose suite_rose write_rose tells before after statuses.NoMemory = Unit {0}
Ends r command input read_rose suite_rose write_rose tells before after statuses.ReadFault = read_rose
Ends r command input read_rose suite_rose write_rose tells before after statuses.OutsideFault =
    IsOutsideFault r command input suite_rose
Ends r command input read_rose suite_rose write_rose tells before after status = outcome r command input ≡ Err status

-- how the program ends: 0 for Done
abbrev pub exit_code : InventoryStatus → ℕ
exit_code statuses.Done = 0
exit_code (statuses.Refused n e) = 1
exit_code (statuses.BadLine n) = 1
exit_code statuses.Usage = 2
exit_code statuses.ReadFault = 3
exit_code statuses.WriteFault = 4
exit_code statuses.OutsideFault = 5
exit_code statuses.NoMemory = 6
exit_code statuses.InputTooLong = 7
exit_code statuses.InputNotUtf8 = 8

-- ---- what a run leaves

-- how far the source was read
abbrev pub extent_of : InventoryStatus → Extent
extent_of statuses.Usage = Untouched
extent_of statuses.ReadFault = ToFault
extent_of statuses.InputTooLong = PastLimit
extent_of statuses.NoMemory = Anywhere
extent_of status = ToEnd

-- the suite isn't asked: no command is named; or merging is; or the source tells its bytes, and none of their parts asks; or no
-- text at all does under this passphrase
abbrev pub SparesSuite : (named : Option Command) (pass : Option (List ℕ)) (tells : Type 0) (input : List ℕ) → Type 0
SparesSuite named pass tells input =
    ((command : Command) → named ≡ Some command → ⊥) ⊎ (named ≡ Some commands.Merging)
    ⊎ (tells × NoneAsks pass (text_parts input)) ⊎ ((text : List ℕ) → asks pass text ≡ false)

-- for Usage the line that says which words there are was put: all of it and no fault was counted, or a prefix of it and one was;
-- for any other status nothing was
abbrev pub SaysUsage : {S : Type 0} → (S → Type 0) → (S → List ℕ) → (S → ℕ) → InventoryStatus → (old new : S) → Type 0
SaysUsage tells written faults statuses.Usage old new =
    (r : Result (Unit {0}) WireError) × Puts tells written faults wire.WriteFault usage_line r old new
SaysUsage tells written faults status old new = new ≡ old
