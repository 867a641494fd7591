-- What a list of texts gives: its inventory, or the first text that is refused and why.
use Rattle.std.specs.Prelude.{◌+◌, ℕ, Bool, List, [], ◌∷◌, ◌++◌, None, Result, Ok, Err, if◌then◌else◌, map}
use Rattle.std.specs.Str.{is_utf8}
use Rattle.picky_wire_base.specs.Outcome.{and_then, map_err, map_ok}
use Rattle.picky_suite.specs.Meanings.{plain}
use Rattle.picky_key_text.specs.Order.{reading}
use Rattle.picky_key_text.specs.Reader.{Reader}
use Rattle.picky_key_text.specs.declared.error.ReadError.{ReadError}
use Rattle.picky_shown.specs.Shown.{is_encrypted, shows}
use Rattle.picky_shown.specs.declared.showing.Shown.{Shown}
use Rattle.picky_inventory.specs.Items.{is_blank}
use Rattle.picky_inventory.specs.OrderedText.{ordered_text}
use Rattle.picky_inventory_texts.specs.Listed.{Listed, listed_line, read_of, sealed_item}
use Rattle.picky_inventory_texts.specs.declared.listing.ListError.{ListError}
use Rattle.picky_inventory_texts.specs.declared.listing.ListError.TheVariants.{Text}
use Rattle.picky_inventory_texts.specs.declared.listing.TextCause.{TextCause}
use Rattle.picky_inventory_texts.specs.declared.listing.TextCause.TheVariants.{NotUtf8, Unread}

-- who lists has no passphrase, and a suite without ciphers
abbrev pub plain_reader : Reader
plain_reader = record { meanings = plain; pass = None }

-- what a text is that is read
abbrev pub read_text : List ℕ → Result Listed ReadError
read_text text = map_ok read_of (reading plain_reader text)

-- an encrypted text is what it shows, and another what it means
abbrev pub seen_text : List ℕ → Shown → Result Listed ReadError
seen_text text shown = if is_encrypted shown.sealing then Ok (sealed_item shown.key) else read_text text

-- the same of any text, where encrypted ones are listed; else they are refused as reading refuses them
abbrev pub listed_text : (sealed : Bool) → List ℕ → Result Listed ReadError
listed_text sealed text = if sealed then and_then (shows plain text) (seen_text text) else read_text text

abbrev pub alone : {A : Type 0} → A → List A
alone x = x ∷ []

-- a text of white space alone gives nothing
abbrev pub text_items : (sealed : Bool) → List ℕ → Result (List Listed) ReadError
text_items sealed text = if is_blank text then Ok [] else map_ok alone (listed_text sealed text)

-- bytes may be no text
abbrev pub bytes_items : (sealed : Bool) → List ℕ → Result (List Listed) TextCause
bytes_items sealed bytes = if is_utf8 bytes then map_err Unread (text_items sealed bytes) else Err NotUtf8

abbrev pub refused : (n : ℕ) → TextCause → ListError
refused n cause = Text n cause

-- the items of the texts, or the first that is refused and why, counted on from n with the blank ones
abbrev pub items_from : (sealed : Bool) (n : ℕ) (texts : List (List ℕ)) → Result (List Listed) ListError
items_from sealed n [] = Ok []
items_from sealed n (bytes ∷ texts) =
    and_then (map_err (refused n) (bytes_items sealed bytes))
    (λ items. map_ok (λ more. items ++ more) (items_from sealed (n + 1) texts))

-- their lines
abbrev pub lines_from : (sealed : Bool) (n : ℕ) (texts : List (List ℕ)) → Result (List (List ℕ)) ListError
lines_from sealed n texts = map_ok (map listed_line) (items_from sealed n texts)

-- their inventory: the lines of the set of the items
abbrev pub texts_inventory : (sealed : Bool) (texts : List (List ℕ)) → Result (List ℕ) ListError
texts_inventory sealed texts = map_ok (ordered_text listed_line) (items_from sealed 0 texts)
