-- The order in which a public key line is refused: its name, its lengths, its body, its blob by field.
use Rattle.std.specs.Prelude.{◌^◌, ◌&&◌, Bool, true, List, ℕ, length, nat_lt, Option, Some, None, Result, Ok}
use Rattle.std.specs.Prelude.{Err, if◌then◌else◌, is_some}
use Rattle.std.specs.Option.{ok_or}
use Rattle.picky_wire_base.specs.Outcome.{and_then}
use Rattle.picky_wire_base.specs.Table.{find_entry}
use Rattle.picky_text.specs.Base64.{decoded}
use Rattle.picky_text.specs.Words.{first_word, body_word, after_body, rest_text}
use Rattle.picky_keys.specs.KeyNameTables.{key_types}
use Rattle.picky_keys.specs.declared.error.SshPublicKeyError.{SshPublicKeyError}
use Rattle.picky_keys.specs.declared.error.SshPublicKeyError.TheVariants as errors
use Rattle.picky_keys.specs.declared.key.SshBasePublicKey.{SshBasePublicKey}
use Rattle.picky_keys.specs.declared.key.SshPublicKey.{SshPublicKey}
use Rattle.picky_keys.specs.Blob.{blob_of}
use Rattle.picky_keys.specs.BlobRefusal.{read_blob}
use Rattle.picky_keys.specs.Line.{line_of}

-- the key that a blob begins with, or the first reason why it begins with none
unfoldable pub blob_key : List ℕ → Result SshBasePublicKey SshPublicKeyError
blob_key bytes = and_then (read_blob bytes) (λ found. Ok found.0)

-- the same of a body, in base64
unfoldable pub body_key : List ℕ → Result SshBasePublicKey SshPublicKeyError
body_key body = and_then (ok_or (decoded body) errors.Base64DecodeError) blob_key

-- the word is one of the seven names
abbrev pub is_key_type : List ℕ → Bool
is_key_type word = is_some (find_entry key_types word)

-- the bytes fit a length of the wire
abbrev pub is_short : List ℕ → Bool
is_short bytes = nat_lt (length bytes) (2 ^ 32)

-- so does the text, where there is one
abbrev pub is_short_text : Option (List ℕ) → Bool
is_short_text None = true
is_short_text (Some text) = is_short text

-- what a name, a body and a comment mean, which is none where it isn't UTF-8; or the first reason why they mean nothing
unfoldable pub words_meaning : (name body : List ℕ) → Option (List ℕ) → Result SshPublicKey SshPublicKeyError
words_meaning name body comment =
    if is_key_type name
    then if is_short body && is_short_text comment
    then and_then (body_key body) (λ key.
    and_then (ok_or comment errors.InvalidUtf8) (λ said.
    Ok (record { inner_key = key; comment = said })))
    else Err errors.TooLong
    else Err errors.UnknownKeyType

-- the comment, where it is UTF-8
abbrev pub comment_text : List ℕ → Option (List ℕ)
comment_text line = rest_text (after_body line)

-- what a line means; its bytes need not be UTF-8
unfoldable pub line_meaning : List ℕ → Result SshPublicKey SshPublicKeyError
line_meaning line = words_meaning (first_word line) (body_word line) (comment_text line)

-- the blob of a key, where a length of the wire can say its length
unfoldable pub blob_bytes : SshBasePublicKey → Result (List ℕ) SshPublicKeyError
blob_bytes key = if is_short (blob_of key) then Ok (blob_of key) else Err errors.TooLong

-- the text of the line, where a length of the wire can say its length
unfoldable pub line_text : SshPublicKey → Result (List ℕ) SshPublicKeyError
line_text key = if is_short (line_of key) then Ok (line_of key) else Err errors.TooLong
