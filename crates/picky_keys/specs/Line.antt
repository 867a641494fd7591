-- A public key line (sshd(8), "AUTHORIZED_KEYS FILE FORMAT"): a key type, the key's blob in base64, a comment.
use Rattle.std.specs.Prelude.{◌≡◌, List, [], ◌∷◌, ◌++◌, ℕ, ◌<◌, ◌^◌, length, IsUtf8}
use Rattle.std.specs.Str.{trim_end}
use Rattle.picky_wire_base.specs.Numbers.{IsBytes}
use Rattle.picky_wire_base.specs.Grammar.{Fits}
use Rattle.picky_text.specs.Base64.{base64_of}
use Rattle.picky_text.specs.Words.{first_word, body_word, line_in_front, after_body, comment_of}
use Rattle.picky_text.specs.Lines.{HasNo}
use Rattle.picky_keys.specs.declared.kind.KeyKind.{KeyKind}
use Rattle.picky_keys.specs.KeyNames.{kind_name}
use Rattle.picky_keys.specs.declared.key.SshPublicKey.{SshPublicKey}
use Rattle.picky_keys.specs.Key.{kind_of, IsKey}
use Rattle.picky_keys.specs.Blob.{blob, blob_of}

-- line = name SP base64 [SP comment], which ends at the first CR or LF, or with the text; what follows it says nothing.
-- The name is one of the seven and says nothing more: the blob's own decides. Bytes after the blob's last field say
-- nothing. The comment goes without the white space at its end, and alone need be UTF-8.
pub record IsPublicLine (text : List ℕ) (key : SshPublicKey) : Type 0 where
  pub kind : KeyKind
  pub name : first_word text ≡ kind_name kind
  pub blob_bytes : List ℕ
  pub are_bytes : IsBytes blob_bytes
  pub body : body_word text ≡ base64_of blob_bytes
  pub body_short : length (body_word text) < 2 ^ 32
  pub rest : List ℕ
  pub fits : Fits blob.piece key.inner_key blob_bytes rest
  pub comment : key.comment ≡ comment_of text
  pub comment_utf8 : IsUtf8 (line_in_front (after_body text))
  pub comment_short : length (comment_of text) < 2 ^ 32

-- the parts of the line that is written, where the name is the blob's own
abbrev pub line_name : SshPublicKey → List ℕ
line_name key = kind_name (kind_of key.inner_key)

abbrev pub line_body : SshPublicKey → List ℕ
line_body key = base64_of (blob_of key.inner_key)

-- line = name SP base64 SP comment CR LF; to sshd(8) the CR would be the comment's
unfoldable pub line_of : SshPublicKey → List ℕ
line_of key = line_name key ++ 32 ∷ line_body key ++ 32 ∷ key.comment ++ 13 ∷ 10 ∷ []

-- ---- what is written is read back

-- a key whose line is read back: its comment is text with no CR, LF and white space at its end
pub record IsReadBackPublicKey (key : SshPublicKey) : Type 0 where
  pub is_key : IsKey key.inner_key
  pub no_cr : HasNo 13 key.comment
  pub no_lf : HasNo 10 key.comment
  pub trimmed : trim_end key.comment ≡ key.comment
  pub utf8 : IsUtf8 key.comment
  pub short : length (line_of key) < 2 ^ 32
