-- Whether a line is an item's: a kind, a space, the base64 of a canonical blob, a space, the base64 of a text, and LF.
use Rattle.std.specs.Prelude.{◌&&◌, ◌||◌, ◌==◌, ◌^◌, ℕ, Bool, false, List, [], ◌∷◌, Option, Some, None, Result, Ok, Err}
use Rattle.std.specs.Prelude.{if◌then◌else◌, length, nat_eq, nat_lt}
use Rattle.std.specs.Str.{bytes_eq, is_utf8}
use Rattle.picky_text.specs.Base64.{decoded}
use Rattle.picky_keys.specs.Blob.{blob_of}
use Rattle.picky_keys.specs.LineRefusal.{blob_key}
use Rattle.picky_keys.specs.declared.error.SshPublicKeyError.{SshPublicKeyError}
use Rattle.picky_keys.specs.declared.key.SshBasePublicKey.{SshBasePublicKey}
use Rattle.picky_inventory.specs.Items.{private_word, public_word}

-- a byte stands before the first part of a cut
abbrev pub onto_cut : (b : ℕ) → Option (List ℕ × List ℕ) → Option (List ℕ × List ℕ)
onto_cut b None = None
onto_cut b (Some cut) = Some (b ∷ cut.0, cut.1)

-- what stands before the first such byte, and what follows it
abbrev pub cut_at : (b : ℕ) (bytes : List ℕ) → Option (List ℕ × List ℕ)
cut_at b [] = None
cut_at b (c ∷ bytes) = if c == b then Some ([], bytes) else onto_cut c (cut_at b bytes)

-- there is a cut, and each of its parts passes its test
abbrev pub passes : (front rest : List ℕ → Bool) → Option (List ℕ × List ℕ) → Bool
passes front rest None = false
passes front rest (Some cut) = front cut.0 && rest cut.1

abbrev pub is_kind : (word : List ℕ) → Bool
is_kind word = bytes_eq word private_word || bytes_eq word public_word

-- the key's one spelling is these bytes
abbrev pub is_spelled : (bytes : List ℕ) → Result SshBasePublicKey SshPublicKeyError → Bool
is_spelled bytes (Ok key) = bytes_eq (blob_of key) bytes
is_spelled bytes (Err e) = false

-- what is read of the blob, written again, is the blob
abbrev pub is_canonical : (blob : List ℕ) → Bool
is_canonical blob = is_spelled blob (blob_key blob)

-- UTF-8, as long as a length of the wire can say
abbrev pub is_text : (bytes : List ℕ) → Bool
is_text bytes = nat_lt (length bytes) (2 ^ 32) && is_utf8 bytes

-- the bytes, where there are such, pass the test
abbrev pub some_passes : (test : List ℕ → Bool) → Option (List ℕ) → Bool
some_passes test None = false
some_passes test (Some bytes) = test bytes

abbrev pub is_blob_word : (word : List ℕ) → Bool
is_blob_word word = some_passes is_canonical (decoded word)

abbrev pub is_comment_word : (word : List ℕ) → Bool
is_comment_word word = some_passes is_text (decoded word)

abbrev pub is_nothing : (bytes : List ℕ) → Bool
is_nothing bytes = nat_eq (length bytes) 0

-- base64 LF, of a text
unfoldable pub is_comment_end : (bytes : List ℕ) → Bool
is_comment_end bytes = passes is_comment_word is_nothing (cut_at 10 bytes)

-- base64 SP, of a canonical blob, and such an end
unfoldable pub is_key_end : (bytes : List ℕ) → Bool
is_key_end bytes = passes is_blob_word is_comment_end (cut_at 32 bytes)

-- kind SP, and such an end; all of it is UTF-8
unfoldable pub is_item_line : (line : List ℕ) → Bool
is_item_line line = is_utf8 line && passes is_kind is_key_end (cut_at 32 line)
