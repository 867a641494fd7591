-- The order in which an armoured text is refused: header, footer, base64, length.
use Rattle.std.specs.Prelude.{◌^◌, nat_lt, length, List, [], ◌∷◌, ℕ, Option, Some, None}
use Rattle.std.specs.Prelude.{Result, Ok, Err, if◌then◌else◌, is_some, option_map}
use Rattle.std.specs.Option.{ok_or}
use Rattle.picky_wire_base.specs.Outcome.{and_then}
use Rattle.picky_text.specs.Base64.{decoded}
use Rattle.picky_text.specs.Behind.{behind}
use Rattle.picky_sshkey_blob.specs.declared.pem_error.PemError.{PemError}
use Rattle.picky_sshkey_blob.specs.declared.pem_error.PemError.TheVariants as errors
use Rattle.picky_sshkey_blob.specs.Pem.{header, footer, packed, pem_lines}

-- what follows the header
unfoldable pub after_header : List ℕ → Option (List ℕ)
after_header text = behind header text

-- what stands before the first footer
unfoldable pub before_footer : List ℕ → Option (List ℕ)
before_footer [] = None
before_footer (b ∷ text) =
    if is_some (behind footer (b ∷ text)) then Some [] else option_map (λ body. b ∷ body) (before_footer text)

-- the content, where a length of the wire can say its length
unfoldable pub short_content : List ℕ → Result (List ℕ) PemError
short_content content = if nat_lt (length content) (2 ^ 32) then Ok content else Err errors.TooLong

-- the content that a body between header and footer spells
unfoldable pub of_body : List ℕ → Result (List ℕ) PemError
of_body body = and_then (ok_or (decoded (packed body)) errors.BadBase64) short_content

-- the content of the text, or the first reason why it has none
unfoldable pub pem_content : List ℕ → Result (List ℕ) PemError
pem_content text =
    and_then (ok_or (after_header text) errors.HeaderNotFound) (λ after.
    and_then (ok_or (before_footer after) errors.FooterNotFound) of_body)

-- the text of the content without its last LF, where a length of the wire can say its length
unfoldable pub pem_string : List ℕ → Result (List ℕ) PemError
pem_string content =
    if nat_lt (length (pem_lines content)) (2 ^ 32) then Ok (pem_lines content) else Err errors.TooLong
