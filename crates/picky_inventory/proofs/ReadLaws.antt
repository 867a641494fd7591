-- What is read of the parts of a text is items.
use Rattle.std.proofs.Common.{◌≡◌, ◌<◌, ◌+◌, ℕ, zero, suc, List, [], ◌∷◌, length, Option, Some, None, Result, Ok, Err, IsUtf8}
use Rattle.std.proofs.Common.{refl, sym, arith, inl, inr, subst}
use Rattle.std.proofs.lemmas.Bool.{cases_Bool}
use Rattle.std.specs.List.{AllByRecursion}
use Rattle.std.specs.Option.{IfSome}
use Rattle.picky_wire_base.specs.Outcome.{and_then, map_err, map_ok}
use Rattle.picky_keys.specs.Key.{IsKey}
use Rattle.picky_sshkey_blob.proofs.KeyLaws.{public_part_is_key}
use Rattle.picky_issuing.specs.Parts.{cut, issuer_text_of, key_text_of_cut}
use Rattle.picky_issuing.proofs.PartsText.{parts_are_text}
use Rattle.picky_key_text.specs.Kept.{IsKeptMeaning, IsKeptKey}
use Rattle.picky_key_text.specs.Key.{public_part}
use Rattle.picky_key_text.specs.Order.{reading}
use Rattle.picky_key_text.specs.Reader.{Reader}
use Rattle.picky_key_text.specs.declared.error.ReadError.{ReadError}
use Rattle.picky_key_text.specs.declared.meaning.Key.{Key}
use Rattle.picky_key_text.specs.declared.meaning.Key.TheVariants.{Private, Public}
use Rattle.picky_key_text.specs.declared.meaning.Meaning.{Meaning}
use Rattle.picky_key_text.proofs.KeptLaws.{meaning_is_kept}
use Rattle.picky_inventory.specs.Items.{Item, IsItem, item_of, is_blank, refused, items_from}
use Rattle.picky_inventory.specs.Parted.{text_parts}
use Rattle.picky_inventory.proofs.PartsLaws.{AreParts, parts_by_cut}

-- ---- the parts of a text are texts

texts_by_cut : (text : List ℕ) (found : Option (List ℕ × List ℕ)) → AreParts text found
    → IfSome (issuer_text_of found) IsUtf8 × IsUtf8 (key_text_of_cut text found)
    → ((more : List ℕ) → length more < length text → IsUtf8 more → AllByRecursion IsUtf8 (text_parts more))
    → AllByRecursion IsUtf8 (text_parts text)
texts_by_cut text None are both each = subst (AllByRecursion IsUtf8) (sym are) (both.1, tt)
texts_by_cut text (Some found) are both each =
    subst (AllByRecursion IsUtf8) (sym are.0) (both.0, each found.1 are.1 both.1)

parts_text_by : (n : ℕ) (text : List ℕ) → length text < n → IsUtf8 text → AllByRecursion IsUtf8 (text_parts text)
parts_text_by zero text below utf8 = absurd (omega arith)
parts_text_by (suc n) text below utf8 =
    texts_by_cut text (cut text) (parts_by_cut text) (parts_are_text text utf8)
    (λ more shorter is. parts_text_by n more (omega (arith, shorter)) is)

pub parts_text : (text : List ℕ) → IsUtf8 text → AllByRecursion IsUtf8 (text_parts text)
parts_text text utf8 = parts_text_by (length text + 1) text (omega arith) utf8

-- ---- what is read is items

kept_key : (key : Key) → IsKeptKey key → IsKey (public_part key)
kept_key (Private key) kept = public_part_is_key key kept
kept_key (Public key) kept = kept

pub kept_is_item : (meaning : Meaning) → IsKeptMeaning meaning → IsItem (item_of meaning)
kept_is_item meaning kept = record { key = kept_key meaning.key kept.key; comment = kept.comment }

item_first : (meaning : Meaning) (rest : Result (List Item) (ℕ × ReadError)) (items : List Item) → IsItem (item_of meaning)
    → ((more : List Item) → rest ≡ Ok more → AllByRecursion IsItem more)
    → map_ok (λ more. item_of meaning ∷ more) rest ≡ Ok items → AllByRecursion IsItem items
item_first meaning (Ok more) items first each is =
    let same : item_of meaning ∷ more ≡ items = cc is in
    subst (AllByRecursion IsItem) same (first, each more refl)
item_first meaning (Err e) items first each is = cc is

item_read : (n : ℕ) (says : Result Meaning ReadError) (rest : Result (List Item) (ℕ × ReadError)) (items : List Item)
    → ((meaning : Meaning) → says ≡ Ok meaning → IsItem (item_of meaning))
    → ((more : List Item) → rest ≡ Ok more → AllByRecursion IsItem more)
    → and_then (map_err (refused n) says) (λ meaning. map_ok (λ more. item_of meaning ∷ more) rest) ≡ Ok items
    → AllByRecursion IsItem items
item_read n (Ok meaning) rest items read each is = item_first meaning rest items (read meaning refl) each is
item_read n (Err e) rest items read each is = cc is

pub read_items : (r : Reader) (n : ℕ) (parts : List (List ℕ)) (items : List Item) → AllByRecursion IsUtf8 parts
    → IfSome r.pass IsUtf8 → items_from r n parts ≡ Ok items → AllByRecursion IsItem items
read_items r n [] items texts pass is =
    let none : [] ≡ items = cc is in
    subst (AllByRecursion IsItem) none tt
read_items r n (part ∷ parts) items texts pass is = elim (cases_Bool (is_blank part)) [
  | inl blank ↦ read_items r (n + 1) parts items texts.1 pass (rw blank at is)
  | inr other ↦
      item_read n (reading r part) (items_from r (n + 1) parts) items
      (λ meaning read. kept_is_item meaning (meaning_is_kept r part meaning texts.0 pass read))
      (λ more rest. read_items r (n + 1) parts more texts.1 pass rest) (rw other at is)
]
