-- What a run writes: the text of a set, and of two lists with a line `%%` between that of the lists joined.
use Rattle.std.proofs.Common.{◌≡◌, ◌+◌, ℕ, false, List, [], ◌∷◌, ◌++◌, Some, Result, Ok, Err, refl, sym, ◌∙◌, ap, ap₂, inl, inr}
use Rattle.std.proofs.Common.{subst}
use Rattle.std.proofs.{lemmas.Bool.{cases_Bool}, lemmas.List.{append_assoc, append_cancel_left}}
use Rattle.std.specs.{List.{AllByRecursion, concat}, Option.{IfSome}, Str.{IsUtf8}}
use Rattle.picky_wire_base.specs.Outcome.{and_then, map_err, map_ok}
use Rattle.picky_text.proofs.ListLaws.{all_weaker}
use Rattle.picky_issuing.specs.Parts.{cut, cut_lines, with_issuer_line, is_mark, issuer_text_of, key_text_of_cut, lines_with_ends, mark_lf}
use Rattle.picky_issuing.proofs.PartsLemmas.{lines_at_lf, lines_joined}
use Rattle.picky_input.specs.{SourceText.{source_text_of}, declared.source_text.SourceError.{SourceError}}
use Rattle.picky_input.proofs.TextLaws.{is_source_text}
use Rattle.picky_key_text.specs.{Order.{reading}, Reader.{Reader}, declared.error.ReadError.{ReadError}}
use Rattle.picky_key_text.specs.declared.meaning.Meaning.{Meaning}
use Rattle.picky_inventory.specs.declared.command.Command.TheVariants as commands
use Rattle.picky_inventory.specs.{declared.merging.Unmerged.{Unmerged}, BadLine.{IsInventory, IsItemLine}}
use Rattle.picky_inventory.specs.Items.{Item, IsItem, IsPrivate, IsPublic, Kind, item_line, item_of, is_blank, items_from}
use Rattle.picky_inventory.specs.Items.{refused}
use Rattle.picky_inventory.specs.Listing.{inventory, inventory_of}
use Rattle.picky_inventory.specs.Merging.{left_part, merged_or_bad, merging, or_empty, right_part, unless_bad}
use Rattle.picky_inventory.specs.{OrderedText.{IsWholeLine, merged, ordered_text}, Parted.{text_parts}}
use Rattle.picky_inventory.specs.Run.{IsOfLists, WritesSet, answer, outcome, part_refusal, source_status, unmerged_status}
use Rattle.picky_inventory.proofs.{BadLineLaws.{inventory_is_whole, no_bad_line}, ItemLaws.{inventory_of_its_set}}
use Rattle.picky_inventory.proofs.{MergingLaws.{inventories_merged}, ReadLaws.{parts_text, read_items}}
use Rattle.picky_inventory.proofs.TextLaws.{merged_with_itself}

-- ---- the mark between two inventories

lines_before : (lines : List (List ℕ)) (rest : List ℕ) → AllByRecursion IsWholeLine lines
    → lines_with_ends (concat lines ++ rest) ≡ lines ++ lines_with_ends rest
lines_before [] rest all = refl
lines_before (line ∷ lines) rest all =
    let front : List ℕ = all.0.front in
    let more : List ℕ = concat lines ++ rest in
    ap lines_with_ends (append_assoc line (concat lines) rest) ∙ ap (λ l. lines_with_ends (l ++ more)) all.0.is
    ∙ ap lines_with_ends (append_assoc front (10 ∷ []) more) ∙ lines_at_lf front more all.0.none
    ∙ ap₂ (λ a b. a ∷ b) (sym all.0.is) (lines_before lines rest all.1)

-- the lines before the first mark
cut_past : (lines more : List (List ℕ)) (key : List ℕ) → AllByRecursion (λ line. is_mark line ≡ false) lines
    → cut_lines more ≡ Some ([], key) → cut_lines (lines ++ more) ≡ Some (concat lines, key)
cut_past [] more key all is = is
cut_past (line ∷ lines) more key all is = rw all.0 (ap (with_issuer_line line) (cut_past lines more key all.1 is))

item_is_no_mark : (kind : Kind) (item : Item) → item.kind ≡ kind → is_mark (item_line item) ≡ false
item_is_no_mark IsPrivate item is = rw is refl
item_is_no_mark IsPublic item is = rw is refl

inventory_is_cut : (left right : List ℕ) → IsInventory left → cut (left ++ mark_lf ++ right) ≡ Some (left, right)
inventory_is_cut left right is =
    let lines : List (List ℕ) = lines_with_ends left in
    let rest : List ℕ = mark_lf ++ right in
    let none = all_weaker IsItemLine (λ line. is_mark line ≡ false)
    (λ line found. ap is_mark found.2 ∙ item_is_no_mark found.0.kind found.0 refl) lines is.items in
    ap cut (append_assoc left mark_lf right) ∙ ap (λ l. cut (l ++ rest)) (sym (lines_joined left))
    ∙ ap cut_lines (lines_before lines rest (inventory_is_whole left is))
    ∙ cut_past lines (lines_with_ends rest) right none (ap (λ l. Some ([], l)) (lines_joined right))
    ∙ ap (λ l. Some (l, right)) (lines_joined left)

pub left_is_cut : (left right : List ℕ) → IsInventory left → left_part (left ++ mark_lf ++ right) ≡ left
left_is_cut left right is = ap (λ c. or_empty (issuer_text_of c)) (inventory_is_cut left right is)

pub right_is_cut : (left right : List ℕ) → IsInventory left → right_part (left ++ mark_lf ++ right) ≡ right
right_is_cut left right is = ap (key_text_of_cut (left ++ mark_lf ++ right)) (inventory_is_cut left right is)

-- an inventory with itself
itself_merged : (text : List ℕ) → IsInventory text → merged_or_bad text text ≡ Ok text
itself_merged text is =
    ap (λ k. unless_bad k (merged text text)) ((no_bad_line text text).1 (is, is)) ∙ ap Ok (merged_with_itself text is.sorted)

-- ---- items of two lists

first_joined : (meaning : Meaning) (rest all : Result (List Item) (ℕ × ReadError)) (xs ys : List Item)
    → ((more : List Item) → rest ≡ Ok more → all ≡ Ok (more ++ ys))
    → map_ok (λ more. item_of meaning ∷ more) rest ≡ Ok xs → map_ok (λ more. item_of meaning ∷ more) all ≡ Ok (xs ++ ys)
first_joined meaning (Ok more) all xs ys each is =
    let same : item_of meaning ∷ more ≡ xs = cc is in
    ap (map_ok (λ more. item_of meaning ∷ more)) (each more refl) ∙ ap (λ l. Ok (l ++ ys)) same
first_joined meaning (Err e) all xs ys each is = cc is

read_joined : (n : ℕ) (says : Result Meaning ReadError) (rest all : Result (List Item) (ℕ × ReadError)) (xs ys : List Item)
    → ((more : List Item) → rest ≡ Ok more → all ≡ Ok (more ++ ys))
    → and_then (map_err (refused n) says) (λ meaning. map_ok (λ more. item_of meaning ∷ more) rest) ≡ Ok xs
    → and_then (map_err (refused n) says) (λ meaning. map_ok (λ more. item_of meaning ∷ more) all) ≡ Ok (xs ++ ys)
read_joined n (Ok meaning) rest all xs ys each is = first_joined meaning rest all xs ys each is
read_joined n (Err e) rest all xs ys each is = cc is

-- a list that is read has the same items at any number
pub items_renumbered : (r : Reader) (n m : ℕ) (list : List (List ℕ)) (xs : List Item) → items_from r n list ≡ Ok xs
    → items_from r m list ≡ Ok xs
items_renumbered r n m [] xs is = is
items_renumbered r n m (text ∷ list) xs is = elim (cases_Bool (is_blank text)) [
  | inl blank ↦ rw blank (items_renumbered r (n + 1) (m + 1) list xs (rw blank at is))
  | inr other ↦
      rw other (read_again n m (reading r text) (items_from r (n + 1) list) (items_from r (m + 1) list) xs
      (λ more rest. items_renumbered r (n + 1) (m + 1) list more rest) (rw other at is))
]
  where
    first_again : (meaning : Meaning) (rest all : Result (List Item) (ℕ × ReadError)) (xs : List Item)
        → ((more : List Item) → rest ≡ Ok more → all ≡ Ok more)
        → map_ok (λ more. item_of meaning ∷ more) rest ≡ Ok xs → map_ok (λ more. item_of meaning ∷ more) all ≡ Ok xs
    first_again meaning (Ok more) all xs each is = ap (map_ok (λ more. item_of meaning ∷ more)) (each more refl) ∙ is
    first_again meaning (Err e) all xs each is = cc is

    read_again : (n m : ℕ) (says : Result Meaning ReadError) (rest all : Result (List Item) (ℕ × ReadError)) (xs : List Item)
        → ((more : List Item) → rest ≡ Ok more → all ≡ Ok more)
        → and_then (map_err (refused n) says) (λ meaning. map_ok (λ more. item_of meaning ∷ more) rest) ≡ Ok xs
        → and_then (map_err (refused m) says) (λ meaning. map_ok (λ more. item_of meaning ∷ more) all) ≡ Ok xs
    read_again n m (Ok meaning) rest all xs each is = first_again meaning rest all xs each is
    read_again n m (Err e) rest all xs each is = cc is

pub items_joined : (r : Reader) (n m : ℕ) (one other : List (List ℕ)) (xs ys : List Item) → items_from r n one ≡ Ok xs
    → items_from r m other ≡ Ok ys → items_from r n (one ++ other) ≡ Ok (xs ++ ys)
items_joined r n m [] other xs ys first second =
    let none : [] ≡ xs = cc first in
    items_renumbered r m n other ys second ∙ ap (λ l. Ok (l ++ ys)) none
items_joined r n m (text ∷ one) other xs ys first second = elim (cases_Bool (is_blank text)) [
  | inl blank ↦ rw blank (items_joined r (n + 1) m one other xs ys (rw blank at first) second)
  | inr read ↦
      rw read (read_joined n (reading r text) (items_from r (n + 1) one) (items_from r (n + 1) (one ++ other)) xs ys
      (λ more rest. items_joined r (n + 1) m one other more ys rest second) (rw read at first))
]

-- ---- what a run writes

-- an inventory is the text of items that are read
inventory_items : (r : Reader) (list : List (List ℕ)) (text : List ℕ) → inventory_of r list ≡ Ok text
    → (items : List Item) × (items_from r 0 list ≡ Ok items) × (text ≡ ordered_text item_line items)
inventory_items r list text = go (items_from r 0 list) refl
  where
    go : (found : Result (List Item) (ℕ × ReadError)) → items_from r 0 list ≡ found
        → map_ok (ordered_text item_line) found ≡ Ok text
        → (items : List Item) × (items_from r 0 list ≡ Ok items) × (text ≡ ordered_text item_line items)
    go (Ok items) says is = (items, says, cc is)
    go (Err e) says is = cc is

merges_to : (input text : List ℕ) (r : Reader) → outcome r commands.Merging input ≡ Ok text → merging input ≡ Ok text
unfolding outcome
merges_to input text r = go (source_text_of input) refl
  where
    of_status : (says : Result (List ℕ) Unmerged) → map_err unmerged_status says ≡ Ok text → says ≡ Ok text
    of_status (Ok written) is = let same : written ≡ text = cc is in ap Ok same
    of_status (Err e) is = cc is

    go : (found : Result (List ℕ) SourceError) → source_text_of input ≡ found
        → and_then (map_err source_status found) (answer r commands.Merging) ≡ Ok text → merging input ≡ Ok text
    go (Ok source) says is = subst (λ t. merging t ≡ Ok text) (is_source_text input source says).1 (of_status (merging source) is)
    go (Err e) says is = cc is

-- what is written for the inventories of two lists is that of the lists joined
pub joined_is_written : (m r : Reader) (one other : List (List ℕ)) (input text : List ℕ) → IsOfLists r one other input
    → outcome m commands.Merging input ≡ Ok text → inventory_of r (one ++ other) ≡ Ok text
joined_is_written m r one other input text lists is =
    let xs = inventory_items r one (left_part input) lists.left in
    let ys = inventory_items r other (right_part input) lists.right in
    let one_items = read_items r 0 one xs.0 lists.one_utf8 lists.pass xs.1 in
    let other_items = read_items r 0 other ys.0 lists.other_utf8 lists.pass ys.1 in
    let says = sym (merges_to input text m is) ∙ ap₂ merged_or_bad xs.2 ys.2
    ∙ inventories_merged xs.0 ys.0 one_items other_items in
    let written : text ≡ ordered_text item_line (xs.0 ++ ys.0) = cc says in
    ap (map_ok (ordered_text item_line)) (items_joined r 0 0 one other xs.0 ys.0 xs.1 ys.1) ∙ ap Ok (sym written)

pub itself_is_written : (m : Reader) (input text written : List ℕ) → IsInventory text → left_part input ≡ text
    → right_part input ≡ text → outcome m commands.Merging input ≡ Ok written → written ≡ text
itself_is_written m input text written inventory left right is =
    let says = sym (merges_to input written m is) ∙ ap₂ merged_or_bad left right ∙ itself_merged text inventory in
    cc says

lists_to : (m : Reader) (input text : List ℕ) → outcome m commands.Listing input ≡ Ok text
    → IsUtf8 input × (inventory m input ≡ Ok text)
unfolding outcome
lists_to m input text = go (source_text_of input) refl
  where
    of_status : (says : Result (List ℕ) (ℕ × ReadError)) → map_err part_refusal says ≡ Ok text → says ≡ Ok text
    of_status (Ok written) is = let same : written ≡ text = cc is in ap Ok same
    of_status (Err e) is = cc is

    go : (found : Result (List ℕ) SourceError) → source_text_of input ≡ found
        → and_then (map_err source_status found) (answer m commands.Listing) ≡ Ok text
        → IsUtf8 input × (inventory m input ≡ Ok text)
    go (Ok source) says is =
        let known = is_source_text input source says in
        (known.0.utf8, subst (λ t. inventory m t ≡ Ok text) known.1 (of_status (inventory m source) is))
    go (Err e) says is = cc is

-- what is written is the text of other items exactly where they are the same set
pub set_is_written : (m : Reader) (input : List ℕ) (ys : List Item) (before after text : List ℕ) → IfSome m.pass IsUtf8
    → AllByRecursion IsItem ys → outcome m commands.Listing input ≡ Ok text → after ≡ before ++ text
    → WritesSet m input ys before after
set_is_written m input ys before after text pass all is written =
    let says = lists_to m input text is in
    let xs = inventory_items m (text_parts input) text says.1 in
    let items = read_items m 0 (text_parts input) xs.0 (parts_text input says.0) pass xs.1 in
    let whole : after ≡ before ++ ordered_text item_line xs.0 = written ∙ ap (λ t. before ++ t) xs.2 in
    let sets = inventory_of_its_set xs.0 ys items all in
    record {
      items = xs.0;
      are = xs.1;
      same = (
        λ equal. sets.0 (append_cancel_left before (ordered_text item_line xs.0) (ordered_text item_line ys) (sym whole ∙ equal)),
        λ same. whole ∙ ap (λ t. before ++ t) (sets.1 same),
      );
    }
