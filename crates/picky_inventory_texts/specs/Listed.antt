-- What an inventory of texts has of each key: its kind, its public part and its comment; and the line of that.
use Rattle.std.specs.Prelude.{◌≡◌, ◌&&◌, ◌||◌, ℕ, Bool, List, [], ◌∷◌, ◌++◌, codes}
use Rattle.std.specs.Str.{bytes_eq, is_utf8}
use Rattle.picky_text.specs.Base64.{base64_of}
use Rattle.picky_keys.specs.Blob.{blob_of}
use Rattle.picky_keys.specs.Key.{IsKey, IsText}
use Rattle.picky_keys.specs.declared.key.SshBasePublicKey.{SshBasePublicKey}
use Rattle.picky_keys.specs.declared.key.SshPublicKey.{SshPublicKey}
use Rattle.picky_key_text.specs.declared.meaning.Meaning.{Meaning}
use Rattle.picky_inventory.specs.ItemLine.{cut_at, is_key_end, is_kind, passes}
use Rattle.picky_inventory.specs.Items.{Item, Kind, item_of, kind_word}

-- a key that is read is private or public; an encrypted private key is sealed
pub data ListedKind : Type 0 where
  IsRead : Kind → ListedKind
  IsSealed : ListedKind

abbrev pub sealed_word : List ℕ
sealed_word = codes "sealed"

abbrev pub listed_word : ListedKind → List ℕ
listed_word (IsRead kind) = kind_word kind
listed_word IsSealed = sealed_word

pub record Listed : Type 0 where
  pub kind : ListedKind
  pub key : SshBasePublicKey
  pub comment : List ℕ

-- what holds of each
pub record IsListed (listed : Listed) : Type 0 where
  pub key : IsKey listed.key
  pub comment : IsText listed.comment

-- listed-line = kind SP base64 SP base64 LF, of the public part's canonical blob and of the comment
abbrev pub listed_line : Listed → List ℕ
listed_line listed =
    listed_word listed.kind ++ 32 ∷ (base64_of (blob_of listed.key) ++ 32 ∷ (base64_of listed.comment ++ 10 ∷ []))

-- an item of picky_inventory, whose line is the same
abbrev pub read_item : Item → Listed
read_item item = record { kind = IsRead item.kind; key = item.key; comment = item.comment }

-- what a text means
abbrev pub read_of : Meaning → Listed
read_of meaning = read_item (item_of meaning)

-- an encrypted private key: its public key, and the comment that stands open
abbrev pub sealed_item : SshPublicKey → Listed
sealed_item key = record { kind = IsSealed; key = key.inner_key; comment = key.comment }

abbrev pub is_listed_word : (word : List ℕ) → Bool
is_listed_word word = is_kind word || bytes_eq word sealed_word

-- kind SP, and what follows it in an item's line; all of it is UTF-8
unfoldable pub is_listed_line : (line : List ℕ) → Bool
is_listed_line line = is_utf8 line && passes is_listed_word is_key_end (cut_at 32 line)

abbrev pub IsListedLine : (line : List ℕ) → Type 0
IsListedLine line = (listed : Listed) × IsListed listed × (line ≡ listed_line listed)
