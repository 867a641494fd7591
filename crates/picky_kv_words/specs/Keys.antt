-- The keys that each file has, one literal each, after PuTTY's manual, Appendix C.
use Rattle.std.specs.Prelude.{[], ◌∷◌, codes, refl}
use Rattle.picky_kv_words.specs.Field.{Field}
use Rattle.picky_kv_words.specs.Literal.{LiteralRow, single_row, literal_field}
use Rattle.picky_kv_words.specs.declared.keys.PpkEncryptionKey.{PpkEncryptionKey}
use Rattle.picky_kv_words.specs.declared.keys.PpkCommentKey.{PpkCommentKey}
use Rattle.picky_kv_words.specs.declared.keys.PpkPublicLinesKey.{PpkPublicLinesKey}
use Rattle.picky_kv_words.specs.declared.keys.PpkPrivateLinesKey.{PpkPrivateLinesKey}
use Rattle.picky_kv_words.specs.declared.keys.PpkPrivateMacKey.{PpkPrivateMacKey}

-- the key of the line that names the encryption
abbrev pub encryption_key_row : LiteralRow PpkEncryptionKey
encryption_key_row = single_row (codes "PpkEncryptionKey") (codes "Encryption")

-- its type
unfoldable pub encryption_key : Field PpkEncryptionKey
encryption_key = literal_field encryption_key_row (record {} ∷ []) (λ _. refl)

-- the key of the comment's line
abbrev pub comment_key_row : LiteralRow PpkCommentKey
comment_key_row = single_row (codes "PpkCommentKey") (codes "Comment")

-- its type
unfoldable pub comment_key : Field PpkCommentKey
comment_key = literal_field comment_key_row (record {} ∷ []) (λ _. refl)

-- the key of the block of the public key
abbrev pub public_lines_key_row : LiteralRow PpkPublicLinesKey
public_lines_key_row = single_row (codes "PpkPublicLinesKey") (codes "Public-Lines")

-- its type
unfoldable pub public_lines_key : Field PpkPublicLinesKey
public_lines_key = literal_field public_lines_key_row (record {} ∷ []) (λ _. refl)

-- the key of the block of the private key
abbrev pub private_lines_key_row : LiteralRow PpkPrivateLinesKey
private_lines_key_row = single_row (codes "PpkPrivateLinesKey") (codes "Private-Lines")

-- its type
unfoldable pub private_lines_key : Field PpkPrivateLinesKey
private_lines_key = literal_field private_lines_key_row (record {} ∷ []) (λ _. refl)

-- the key of the line of the MAC
abbrev pub private_mac_key_row : LiteralRow PpkPrivateMacKey
private_mac_key_row = single_row (codes "PpkPrivateMacKey") (codes "Private-MAC")

-- its type
unfoldable pub private_mac_key : Field PpkPrivateMacKey
private_mac_key = literal_field private_mac_key_row (record {} ∷ []) (λ _. refl)
