-- The order in which a PuTTY public key is refused: its text line by line and then the joined body, and its blob.
use Rattle.std.specs.Prelude.{◌==◌, ◌&&◌, List, [], ◌∷◌, ◌++◌, ℕ, Option, Some, None, Bool}
use Rattle.std.specs.Prelude.{Result, Ok, Err, if◌then◌else◌, option_and_then}
use Rattle.std.specs.List.{list_any, before_last, after_first}
use Rattle.std.specs.Option.{ok_or}
use Rattle.std.specs.Str.{bytes_eq}
use Rattle.picky_wire_base.specs.Outcome.{and_then}
use Rattle.picky_text.specs.Base64.{decoded}
use Rattle.picky_text.specs.Behind.{behind}
use Rattle.picky_text.specs.Lines.{lines}
use Rattle.picky_text.specs.Quote.{unquote}
use Rattle.picky_keys.specs.declared.public_key.PublicKey.{PublicKey}
use Rattle.picky_keys.specs.declared.key.SshBasePublicKey.{SshBasePublicKey}
use Rattle.picky_keys.specs.declared.key.SshPublicKey.{SshPublicKey}
use Rattle.picky_keys.specs.Blob.{blob_of}
use Rattle.picky_keys.specs.Key.{is_security_key_kind, kind_of, public_key_of}
use Rattle.picky_keys.specs.LineRefusal.{is_short}
use Rattle.picky_ppk_parts.specs.declared.error.PuttyError.{PuttyError}
use Rattle.picky_ppk_parts.specs.declared.error.PuttyError.TheVariants as errors
use Rattle.picky_ppk_parts.specs.PartsRefusal.{key_in_blob}
use Rattle.picky_ppk_parts.specs.Unsupported.{no_security_keys}
use Rattle.picky_ppk_file.specs.declared.putty_public.PuttyPublicKey.{PuttyPublicKey}
use Rattle.picky_ppk_file.specs.PuttyPublic.{putty_header, putty_footer, comment_start, putty_public}

-- ---- a text

abbrev pub is_quote : ℕ → Bool
is_quote b = b == 34

-- what stands between the first and the last of two quotes or more
unfoldable pub between_quotes : List ℕ → Option (List ℕ)
between_quotes text =
    if list_any is_quote text && list_any is_quote (after_first is_quote text)
    then Some (before_last is_quote (after_first is_quote text)) else None

-- the quoted comment in a comment line
unfoldable pub quoted : List ℕ → Option (List ℕ)
quoted line = option_and_then between_quotes (behind comment_start line)

-- the lines up to the first footer, joined after what was joined so far
unfoldable pub body_from : List ℕ → List (List ℕ) → Option (List ℕ)
body_from so_far [] = None
body_from so_far (line ∷ more) =
    if bytes_eq line putty_footer then Some so_far else body_from (so_far ++ line) more

-- the key of what is quoted and of a blob
abbrev pub of_blob : List ℕ → List ℕ → Result PuttyPublicKey PuttyError
of_blob between blob =
    if is_short blob && is_short (unquote between)
    then Ok (record { blob = blob; comment = unquote between }) else Err errors.TooLong

-- the key of what is quoted and of a body
abbrev pub of_parts : List ℕ → List ℕ → Result PuttyPublicKey PuttyError
of_parts between body = and_then (ok_or (decoded body) errors.InvalidPublicKeyData) (of_blob between)

-- after the header and the comment line
abbrev pub after_comment : List ℕ → List (List ℕ) → Result PuttyPublicKey PuttyError
after_comment between ls = and_then (ok_or (body_from [] ls) errors.EndOfInput) (of_parts between)

-- after the header
abbrev pub after_putty_header : List (List ℕ) → Result PuttyPublicKey PuttyError
after_putty_header [] = Err errors.EndOfInput
after_putty_header (line ∷ more) =
    and_then (ok_or (quoted line) errors.InvalidPublicKeyComment) (λ between. after_comment between more)

abbrev pub of_lines : List (List ℕ) → Result PuttyPublicKey PuttyError
of_lines [] = Err errors.EndOfInput
of_lines (line ∷ more) = if bytes_eq line putty_header then after_putty_header more else Err errors.InvalidPublicKeyContainer

-- what the text says, or the first reason why it says nothing
unfoldable pub putty_meaning : List ℕ → Result PuttyPublicKey PuttyError
putty_meaning text = of_lines (lines text)

-- the text of the key, where a length of the wire can say its length
unfoldable pub putty_text : PuttyPublicKey → Result (List ℕ) PuttyError
putty_text key =
    if is_short (putty_public key.blob key.comment) then Ok (putty_public key.blob key.comment)
    else Err errors.TooLong

-- ---- a blob

-- a key whose secret a device keeps
abbrev pub is_security_key : SshBasePublicKey → Bool
is_security_key key = is_security_key_kind (kind_of key)

-- PuTTY's public key for an OpenSSH one
unfoldable pub putty_of_openssh : SshPublicKey → Result PuttyPublicKey PuttyError
putty_of_openssh key =
    if is_security_key key.inner_key then Err no_security_keys
    else if is_short (blob_of key.inner_key)
    then Ok (record { blob = blob_of key.inner_key; comment = key.comment }) else Err errors.TooLong

-- OpenSSH's public key for PuTTY's
unfoldable pub putty_to_openssh : PuttyPublicKey → Result SshPublicKey PuttyError
putty_to_openssh key =
    and_then (key_in_blob key.blob) (λ inner. Ok (record { inner_key = inner; comment = key.comment }))

-- the key in the blob, of a kind that PuTTY has
abbrev pub plain_key : SshBasePublicKey → Result PublicKey PuttyError
plain_key key = if is_security_key key then Err no_security_keys else Ok (public_key_of key)

unfoldable pub plain_key_of : PuttyPublicKey → Result PublicKey PuttyError
plain_key_of key = and_then (key_in_blob key.blob) plain_key

-- the key with another comment
unfoldable pub putty_commented : PuttyPublicKey → List ℕ → Result PuttyPublicKey PuttyError
putty_commented key comment =
    if is_short comment then Ok (record key { comment = comment }) else Err errors.TooLong
