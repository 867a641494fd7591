-- The public key line of an entry's key, without an end (sshd(8), "AUTHORIZED_KEYS FILE FORMAT").
use Rattle.std.specs.Prelude.{List, [], ◌∷◌, ◌++◌, ℕ}
use Rattle.picky_keys.specs.Line.{line_body, line_name}
use Rattle.picky_keys.specs.declared.key.SshPublicKey.{SshPublicKey}

-- SP comment, where there is one
abbrev pub comment_part : (comment : List ℕ) → List ℕ
comment_part [] = []
comment_part (b ∷ more) = 32 ∷ b ∷ more

-- line = name SP base64 [SP comment], of the blob's own name
abbrev pub key_line : SshPublicKey → List ℕ
key_line key = line_name key ++ 32 ∷ line_body key ++ comment_part key.comment
