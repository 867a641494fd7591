-- What an inventory has of each key: whether it is private, its public part and its comment; and the line of that.
use Rattle.std.specs.Prelude.{◌+◌, ℕ, Bool, List, [], ◌∷◌, ◌++◌, Result, Ok, codes, if◌then◌else◌, length, nat_eq}
use Rattle.std.specs.Str.{trim_end}
use Rattle.picky_wire_base.specs.Outcome.{and_then, map_err, map_ok}
use Rattle.picky_text.specs.Base64.{base64_of}
use Rattle.picky_keys.specs.Blob.{blob_of}
use Rattle.picky_keys.specs.Key.{IsKey, IsText}
use Rattle.picky_keys.specs.declared.key.SshBasePublicKey.{SshBasePublicKey}
use Rattle.picky_key_text.specs.Key.{public_part}
use Rattle.picky_key_text.specs.Order.{reading}
use Rattle.picky_key_text.specs.Reader.{Reader}
use Rattle.picky_key_text.specs.declared.error.ReadError.{ReadError}
use Rattle.picky_key_text.specs.declared.meaning.Key.{Key}
use Rattle.picky_key_text.specs.declared.meaning.Key.TheVariants.{Private, Public}
use Rattle.picky_key_text.specs.declared.meaning.Meaning.{Meaning}

-- the word of a kind
abbrev pub private_word : List ℕ
private_word = codes "private"

abbrev pub public_word : List ℕ
public_word = codes "public"

pub data Kind : Type 0 where
  IsPrivate : Kind
  IsPublic : Kind

abbrev pub kind_word : Kind → List ℕ
kind_word IsPrivate = private_word
kind_word IsPublic = public_word

pub record Item : Type 0 where
  pub kind : Kind
  pub key : SshBasePublicKey
  pub comment : List ℕ

-- what holds of each
pub record IsItem (item : Item) : Type 0 where
  pub key : IsKey item.key
  pub comment : IsText item.comment

abbrev pub kind_of_key : Key → Kind
kind_of_key (Private key) = IsPrivate
kind_of_key (Public key) = IsPublic

-- the item of what a text means
abbrev pub item_of : Meaning → Item
item_of meaning =
    record { kind = kind_of_key meaning.key; key = public_part meaning.key; comment = meaning.comment }

-- item-line = kind SP base64 SP base64 LF, of the public part's canonical blob and of the comment
abbrev pub item_line : Item → List ℕ
item_line item =
    kind_word item.kind ++ 32 ∷ (base64_of (blob_of item.key) ++ 32 ∷ (base64_of item.comment ++ 10 ∷ []))

-- a part of white space alone gives nothing
abbrev pub is_blank : (part : List ℕ) → Bool
is_blank part = nat_eq (length (trim_end part)) 0

-- the number of a part, and why it isn't read
abbrev pub refused : (n : ℕ) → ReadError → ℕ × ReadError
refused n e = (n, e)

-- the items of the parts, or the first that isn't read and why, counted on from n with the blank ones
abbrev pub items_from : Reader → (n : ℕ) (parts : List (List ℕ)) → Result (List Item) (ℕ × ReadError)
items_from r n [] = Ok []
items_from r n (part ∷ parts) =
    if is_blank part then items_from r (n + 1) parts
    else and_then (map_err (refused n) (reading r part))
    (λ meaning. map_ok (λ items. item_of meaning ∷ items) (items_from r (n + 1) parts))
