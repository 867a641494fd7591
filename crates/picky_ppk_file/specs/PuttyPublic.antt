-- A public key as PuTTYgen saves it: RFC 4716's file with one comment line, which is quoted, and which isn't folded
-- however long it is.
use Rattle.std.specs.Prelude.{◌≡◌, ◌≢◌, ◌<◌, ◌^◌, length, List, [], ◌∷◌, ◌++◌, ℕ, codes}
use Rattle.std.specs.List.{concat, AllByRecursion}
use Rattle.picky_wire_base.specs.Numbers.{IsBytes}
use Rattle.picky_wire_base.specs.Grammar.{Fits}
use Rattle.picky_text.specs.Base64.{base64_of}
use Rattle.picky_text.specs.Rows.{IsRowsOf, rows_of}
use Rattle.picky_text.specs.Lines.{lines, text_of, HasNo}
use Rattle.picky_text.specs.Quote.{quote, unquote}
use Rattle.picky_text.specs.declared.lines.LineEnd.TheVariants.{CrLf}
use Rattle.picky_keys.specs.declared.key.SshPublicKey.{SshPublicKey}
use Rattle.picky_keys.specs.Blob.{blob as layout}

unfoldable pub putty_header : List ℕ
putty_header = codes "---- BEGIN SSH2 PUBLIC KEY ----"

unfoldable pub putty_footer : List ℕ
putty_footer = codes "---- END SSH2 PUBLIC KEY ----"

unfoldable pub comment_start : List ℕ
comment_start = codes "Comment: "

-- the comment line, with the comment quoted
unfoldable pub comment_line : List ℕ → List ℕ
comment_line comment = comment_start ++ 34 ∷ quote comment ++ 34 ∷ []

-- ---- written

-- the text: header, comment line, the blob in base64 in rows of 64, footer, each ended by CR LF
pub record SpellsPuttyPublic (blob comment text : List ℕ) : Type 0 where
  pub rows : List (List ℕ)
  pub body : IsRowsOf (base64_of blob) rows
  pub whole : text ≡ text_of CrLf (putty_header ∷ comment_line comment ∷ rows ++ putty_footer ∷ [])

-- the same, as a function
unfoldable pub putty_public : List ℕ → List ℕ → List ℕ
putty_public blob comment =
    text_of CrLf (putty_header ∷ comment_line comment ∷ rows_of (base64_of blob) ++ putty_footer ∷ [])

-- ---- read

-- the text says this blob and this comment: of the comment line what stands between its first and its
-- last quote, unquoted; of the lines up to the first footer the bytes that they spell together
pub record SaysPuttyPublic (text blob comment : List ℕ) : Type 0 where
  pub before : List ℕ
  pub between : List ℕ
  pub after : List ℕ
  pub body : List (List ℕ)
  pub more : List (List ℕ)
  pub whole : lines text ≡ putty_header ∷ (comment_start ++ before ++ 34 ∷ between ++ 34 ∷ after) ∷ body ++ putty_footer ∷ more
  pub first_quote : HasNo 34 before
  pub last_quote : HasNo 34 after
  pub comment_is : comment ≡ unquote between
  pub first_footer : AllByRecursion (λ line. line ≢ putty_footer) body
  pub body_is : concat body ≡ base64_of blob
  pub bytes : IsBytes blob
  pub blob_short : length blob < 2 ^ 32
  pub comment_short : length comment < 2 ^ 32

-- the text means the key in the blob that it says, where bytes after the blob's last field say nothing
pub record IsPuttyPublic (text : List ℕ) (key : SshPublicKey) : Type 0 where
  pub blob : List ℕ
  pub says : SaysPuttyPublic text blob key.comment
  pub rest : List ℕ
  pub fits : Fits layout.piece key.inner_key blob rest
