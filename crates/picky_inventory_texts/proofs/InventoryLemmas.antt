-- An inventory of texts is of its set, and that of the parts where nothing sealed is listed.
use Rattle.std.proofs.Common.{◌≡◌, ◌↔◌, ◌+◌, ◌∙◌, ℕ, Bool, true, false, List, [], ◌∷◌, ◌++◌, map, Result, Ok, Err}
use Rattle.std.proofs.Common.{IsUtf8, refl, sym, ap, subst, inl, inr}
use Rattle.std.proofs.lemmas.Bool.{cases_Bool}
use Rattle.std.proofs.lemmas.Str.{IsUtf8-from_is_utf8, is_utf8-from_IsUtf8}
use Rattle.std.specs.List.{AllByRecursion, concat}
use Rattle.std.specs.Str.{is_utf8}
use Rattle.picky_wire_base.specs.Outcome.{and_then, map_err, map_ok}
use Rattle.picky_wire_base.specs.carried.Outcome.{and_then_ok, map_err_ok}
use Rattle.picky_suite.specs.Meanings.{plain}
use Rattle.picky_text.proofs.ListLaws.{all_append, all_weaker}
use Rattle.picky_key_text.specs.Order.{reading}
use Rattle.picky_key_text.specs.declared.error.ReadError.{ReadError}
use Rattle.picky_key_text.specs.declared.meaning.Meaning.{Meaning}
use Rattle.picky_key_text.proofs.KeptLaws.{meaning_is_kept}
use Rattle.picky_shown.specs.Shown.{is_encrypted, shows}
use Rattle.picky_shown.specs.declared.showing.Shown.{Shown}
use Rattle.picky_inventory.specs.InOrder.{SameItems, line_cmp, ordered}
use Rattle.picky_inventory.specs.Items.{Item, is_blank, item_line, item_of, items_from as parts_from, refused as part_refused}
use Rattle.picky_inventory.specs.Listing.{inventory_of}
use Rattle.picky_inventory.specs.OrderedText.{IsWholeLine, ordered_text}
use Rattle.picky_inventory.proofs.OrderLaws.{all_has, all_ordered}
use Rattle.picky_inventory.proofs.ReadLaws.{kept_is_item}
use Rattle.picky_inventory.proofs.TextLaws.{all_mapped, lines_of_ordered, tells_each, text_is_of_its_set, text_sorted}
use Rattle.picky_inventory_texts.specs.Listed.{IsListed, IsListedLine, Listed, listed_line, read_item, read_of, sealed_item}
use Rattle.picky_inventory_texts.specs.Merging.{IsListing}
use Rattle.picky_inventory_texts.specs.Texts.{alone, bytes_items, items_from, listed_text, plain_reader, refused, seen_text}
use Rattle.picky_inventory_texts.specs.Texts.{text_items, texts_inventory}
use Rattle.picky_inventory_texts.specs.declared.listing.ListError.{ListError}
use Rattle.picky_inventory_texts.specs.declared.listing.TextCause.TheVariants as causes
use Rattle.picky_inventory_texts.proofs.LineLemmas.{listed_is_line, one_listed}
use Rattle.picky_inventory_texts.proofs.SealedLemmas.{shown_is_kept}

-- ---- what is listed of one text

read_is_listed : (text : List ℕ) (says : Result Meaning ReadError) (listed : Listed) → IsUtf8 text
    → reading plain_reader text ≡ says → map_ok read_of says ≡ Ok listed → IsListed listed
read_is_listed text (Ok meaning) listed utf8 read is =
    let same : read_of meaning ≡ listed = cc is in
    let kept = kept_is_item meaning (meaning_is_kept plain_reader text meaning utf8 tt read) in
    subst IsListed same (record { key = kept.key; comment = kept.comment })
read_is_listed text (Err e) listed utf8 read is = cc is

seen_is_listed : (text : List ℕ) (shown : Shown) (shut : Bool) (listed : Listed) → IsUtf8 text → shows plain text ≡ Ok shown
    → is_encrypted shown.sealing ≡ shut → seen_text text shown ≡ Ok listed → IsListed listed
seen_is_listed text shown true listed utf8 seen shut is =
    let same : sealed_item shown.key ≡ listed = cc (rw shut at is) in
    let kept = shown_is_kept plain text shown utf8 seen shut in
    subst IsListed same (record { key = kept.key; comment = kept.comment })
seen_is_listed text shown false listed utf8 seen shut is =
    read_is_listed text (reading plain_reader text) listed utf8 refl (rw shut at is)

text_is_listed : (sealed : Bool) (text : List ℕ) (listed : Listed) → IsUtf8 text → listed_text sealed text ≡ Ok listed
    → IsListed listed
text_is_listed true text listed utf8 is =
    let found = and_then_ok (shows plain text) (seen_text text) listed is in
    seen_is_listed text found.0 (is_encrypted found.0.sealing) listed utf8 found.1 refl found.2
text_is_listed false text listed utf8 is = read_is_listed text (reading plain_reader text) listed utf8 refl is

alone_is_listed : (says : Result Listed ReadError) (items : List Listed)
    → ((listed : Listed) → says ≡ Ok listed → IsListed listed) → map_ok alone says ≡ Ok items → AllByRecursion IsListed items
alone_is_listed (Ok listed) items each is =
    let same : alone listed ≡ items = cc is in
    subst (AllByRecursion IsListed) same (each listed refl, tt)
alone_is_listed (Err e) items each is = cc is

items_are_listed : (sealed : Bool) (text : List ℕ) (items : List Listed) → IsUtf8 text → text_items sealed text ≡ Ok items
    → AllByRecursion IsListed items
items_are_listed sealed text items utf8 is = elim (cases_Bool (is_blank text)) [
  | inl blank ↦
      let none : [] ≡ items = cc (rw blank at is) in
      subst (AllByRecursion IsListed) none tt
  | inr other ↦
      alone_is_listed (listed_text sealed text) items (λ listed found. text_is_listed sealed text listed utf8 found)
      (rw other at is)
]

bytes_are_listed : (sealed : Bool) (bytes : List ℕ) (items : List Listed) → bytes_items sealed bytes ≡ Ok items
    → AllByRecursion IsListed items
bytes_are_listed sealed bytes items is = elim (cases_Bool (is_utf8 bytes)) [
  | inl utf8 ↦
      items_are_listed sealed bytes items (IsUtf8-from_is_utf8 bytes utf8)
      (map_err_ok causes.Unread (text_items sealed bytes) items (rw utf8 at is))
  | inr none ↦ cc (rw none at is)
]

map_ok_ok : {A B E : Type 0} (f : A → B) (says : Result A E) (y : B) → map_ok f says ≡ Ok y
    → (x : A) × (says ≡ Ok x) × (y ≡ f x)
map_ok_ok f (Ok x) y is = let same : f x ≡ y = cc is in (x, refl, sym same)
map_ok_ok f (Err e) y is = cc is

pub texts_are_listed : (sealed : Bool) (n : ℕ) (texts : List (List ℕ)) (listed : List Listed) → items_from sealed n texts ≡ Ok listed
    → AllByRecursion IsListed listed
texts_are_listed sealed n [] listed is =
    let none : [] ≡ listed = cc is in
    subst (AllByRecursion IsListed) none tt
texts_are_listed sealed n (bytes ∷ texts) listed is =
    let step = and_then_ok (map_err (refused n) (bytes_items sealed bytes))
    (λ items. map_ok (λ more. items ++ more) (items_from sealed (n + 1) texts)) listed is in
    let items : List Listed = step.0 in
    let rest = map_ok_ok (λ more. items ++ more) (items_from sealed (n + 1) texts) listed step.2 in
    let first = bytes_are_listed sealed bytes items (map_err_ok (refused n) (bytes_items sealed bytes) items step.1) in
    subst (AllByRecursion IsListed) (sym rest.2)
    (all_append IsListed items rest.0 first (texts_are_listed sealed (n + 1) texts rest.0 rest.1))

-- ---- an inventory is one, and is of its set

pub listed_are_inventory : (listed : List Listed) → AllByRecursion IsListed listed → IsListing (ordered_text listed_line listed)
listed_are_inventory listed all =
    let whole = all_weaker IsListed (λ x. IsWholeLine (listed_line x)) listed_is_line listed all in
    record {
      lines =
          subst (AllByRecursion IsListedLine) (sym (lines_of_ordered listed_line listed whole))
          (all_ordered line_cmp IsListedLine (map listed_line listed)
          (all_mapped listed_line IsListedLine listed
          (all_weaker IsListed (λ x. IsListedLine (listed_line x)) (λ x is. (x, is, refl)) listed all)));
      sorted = text_sorted listed_line listed whole;
    }

pub inventory_of_its_set : (xs ys : List Listed) → AllByRecursion IsListed xs → AllByRecursion IsListed ys
    → (ordered_text listed_line xs ≡ ordered_text listed_line ys) ↔ SameItems xs ys
inventory_of_its_set xs ys left right =
    let all = all_append IsListed xs ys left right in
    text_is_of_its_set listed_line xs ys
    (tells_each listed_line IsListed listed_is_line one_listed (xs ++ ys) (λ x has. all_has IsListed (xs ++ ys) x all has))

-- ---- that of the parts

lines_alike : (items : List Item) → map listed_line (map read_item items) ≡ map item_line items
lines_alike [] = refl
lines_alike (item ∷ items) = ap (λ l. item_line item ∷ l) (lines_alike items)

text_alike : (items : List Item) → ordered_text listed_line (map read_item items) ≡ ordered_text item_line items
text_alike items = ap (λ l. concat (ordered line_cmp l)) (lines_alike items)

-- one text, which is read
of_meaning : (n : ℕ) (meaning : Meaning) (more : Result (List Listed) ListError)
    → and_then (map_err (refused n) (map_err causes.Unread (map_ok alone (map_ok read_of (Ok meaning)))))
    (λ items. map_ok (λ m. items ++ m) more)
    ≡ map_ok (λ m. read_of meaning ∷ m) more
of_meaning n meaning (Ok m) = refl
of_meaning n meaning (Err e) = refl

-- what the texts give, by the first of them
first_blank : (n : ℕ) (bytes : List ℕ) (texts : List (List ℕ)) → is_utf8 bytes ≡ true → is_blank bytes ≡ true
    → items_from false n (bytes ∷ texts) ≡ map_ok (λ m. [] ++ m) (items_from false (n + 1) texts)
first_blank n bytes texts utf8 blank = rw (utf8, blank) refl

first_read : (n : ℕ) (bytes : List ℕ) (texts : List (List ℕ)) → is_utf8 bytes ≡ true → is_blank bytes ≡ false
    → items_from false n (bytes ∷ texts)
    ≡ and_then (map_err (refused n) (map_err causes.Unread (map_ok alone (map_ok read_of (reading plain_reader bytes)))))
    (λ items. map_ok (λ m. items ++ m) (items_from false (n + 1) texts))
first_read n bytes texts utf8 other = rw (utf8, other) refl

first_is_text : (n : ℕ) (bytes : List ℕ) (texts : List (List ℕ)) (listed : List Listed)
    → items_from false n (bytes ∷ texts) ≡ Ok listed → is_utf8 bytes ≡ true
first_is_text n bytes texts listed is = elim (cases_Bool (is_utf8 bytes)) [
  | inl utf8 ↦ utf8
  | inr none ↦ cc (rw none at is)
]

-- the texts' items are the parts', and the texts are UTF-8
abbrev ArePart : ℕ → List (List ℕ) → List Listed → Type 0
ArePart m texts listed =
    (items : List Item) × AllByRecursion IsUtf8 texts × (parts_from plain_reader m texts ≡ Ok items) × (listed ≡ map read_item items)

blank_part : (m : ℕ) (bytes : List ℕ) (texts : List (List ℕ)) (listed : List Listed) → IsUtf8 bytes → is_blank bytes ≡ true
    → ArePart (m + 1) texts listed → ArePart m (bytes ∷ texts) listed
blank_part m bytes texts listed utf8 blank (items, all, read, same) = (items, (utf8, all), rw blank read, same)

read_part : (m : ℕ) (bytes : List ℕ) (texts : List (List ℕ)) (meaning : Meaning) (rest : List Listed) → IsUtf8 bytes
    → is_blank bytes ≡ false → reading plain_reader bytes ≡ Ok meaning → ArePart (m + 1) texts rest
    → ArePart m (bytes ∷ texts) (read_of meaning ∷ rest)
read_part m bytes texts meaning rest utf8 other says (items, all, read, same) = (
  item_of meaning ∷ items,
  (utf8, all),
  rw other (ap
      (λ s. and_then (map_err (part_refused m) s) (λ k. map_ok (λ more. item_of k ∷ more) (parts_from plain_reader (m + 1) texts)))
      says ∙ ap (map_ok (λ more. item_of meaning ∷ more)) read),
  ap (λ l. read_of meaning ∷ l) same,
)

-- what the step that reads gives
step_read : (n : ℕ) (says : Result Meaning ReadError) (more : Result (List Listed) ListError) (listed : List Listed)
    → and_then (map_err (refused n) (map_err causes.Unread (map_ok alone (map_ok read_of says))))
    (λ items. map_ok (λ m. items ++ m) more) ≡ Ok listed
    → (meaning : Meaning) × (says ≡ Ok meaning) × (rest : List Listed) × (more ≡ Ok rest) × (listed ≡ read_of meaning ∷ rest)
step_read n (Ok meaning) (Ok rest) listed is =
    let same : read_of meaning ∷ rest ≡ listed = cc is in (meaning, refl, rest, refl, sym same)
step_read n (Ok meaning) (Err e) listed is = cc is
step_read n (Err e) more listed is = cc is

texts_are_parts : (n m : ℕ) (texts : List (List ℕ)) (listed : List Listed) → items_from false n texts ≡ Ok listed
    → ArePart m texts listed
texts_are_parts n m [] listed is =
    let none : [] ≡ listed = cc is in ([], tt, refl, sym none)
texts_are_parts n m (bytes ∷ texts) listed is =
    let utf8 = first_is_text n bytes texts listed is in
    let text : IsUtf8 bytes = IsUtf8-from_is_utf8 bytes utf8 in
    elim (cases_Bool (is_blank bytes)) [
      | inl blank ↦
          let rest = map_ok_ok (λ more. [] ++ more) (items_from false (n + 1) texts) listed
          (sym (first_blank n bytes texts utf8 blank) ∙ is) in
          subst (ArePart m (bytes ∷ texts)) (sym rest.2)
          (blank_part m bytes texts rest.0 text blank (texts_are_parts (n + 1) (m + 1) texts rest.0 rest.1))
      | inr other ↦
          let step = step_read n (reading plain_reader bytes) (items_from false (n + 1) texts) listed
          (sym (first_read n bytes texts utf8 other) ∙ is) in
          subst (ArePart m (bytes ∷ texts)) (sym step.4)
          (read_part m bytes texts step.0 step.2 text other step.1 (texts_are_parts (n + 1) (m + 1) texts step.2 step.3))
    ]

-- and the other way round
part_read : (m : ℕ) (says : Result Meaning ReadError) (more : Result (List Item) (ℕ × ReadError)) (items : List Item)
    → and_then (map_err (part_refused m) says) (λ meaning. map_ok (λ rest. item_of meaning ∷ rest) more) ≡ Ok items
    → (meaning : Meaning) × (says ≡ Ok meaning) × (rest : List Item) × (more ≡ Ok rest) × (items ≡ item_of meaning ∷ rest)
part_read m (Ok meaning) (Ok rest) items is =
    let same : item_of meaning ∷ rest ≡ items = cc is in (meaning, refl, rest, refl, sym same)
part_read m (Ok meaning) (Err e) items is = cc is
part_read m (Err e) more items is = cc is

parts_are_texts : (n m : ℕ) (texts : List (List ℕ)) (items : List Item) → AllByRecursion IsUtf8 texts
    → parts_from plain_reader m texts ≡ Ok items → items_from false n texts ≡ Ok (map read_item items)
parts_are_texts n m [] items all is =
    let none : [] ≡ items = cc is in
    ap (λ l. Ok (map read_item l)) none
parts_are_texts n m (bytes ∷ texts) items all is =
    let utf8 = is_utf8-from_IsUtf8 bytes all.0 in
    elim (cases_Bool (is_blank bytes)) [
      | inl blank ↦
          first_blank n bytes texts utf8 blank
          ∙ ap (map_ok (λ m. [] ++ m)) (parts_are_texts (n + 1) (m + 1) texts items all.1 (rw blank at is))
      | inr other ↦
          let step = part_read m (reading plain_reader bytes) (parts_from plain_reader (m + 1) texts) items (rw other at is) in
          first_read n bytes texts utf8 other
          ∙ ap (λ s. and_then (map_err (refused n) (map_err causes.Unread (map_ok alone (map_ok read_of s))))
          (λ items. map_ok (λ m. items ++ m) (items_from false (n + 1) texts))) step.1
          ∙ of_meaning n step.0 (items_from false (n + 1) texts)
          ∙ ap (map_ok (λ m. read_of step.0 ∷ m)) (parts_are_texts (n + 1) (m + 1) texts step.2 all.1 step.3)
          ∙ ap (λ l. Ok (map read_item l)) (sym {b = item_of step.0 ∷ step.2} step.4)
    ]

pub inventory_of_parts : (texts : List (List ℕ)) (written : List ℕ) → (texts_inventory false texts ≡ Ok written)
    ↔ (AllByRecursion IsUtf8 texts × (inventory_of plain_reader texts ≡ Ok written))
inventory_of_parts texts written = (
  λ is.
      let found = map_ok_ok (ordered_text listed_line) (items_from false 0 texts) written is in
      let parts = texts_are_parts 0 0 texts found.0 found.1 in (
        parts.1,
        ap (map_ok (ordered_text item_line)) parts.2
            ∙ ap Ok (sym (found.2 ∙ ap (ordered_text listed_line) parts.3 ∙ text_alike parts.0)),
      ),
  λ both.
      let found = map_ok_ok (ordered_text item_line) (parts_from plain_reader 0 texts) written both.1 in
      ap (map_ok (ordered_text listed_line)) (parts_are_texts 0 0 texts found.0 both.0 found.1)
      ∙ ap Ok (text_alike found.0 ∙ sym found.2),
)
