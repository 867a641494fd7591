-- A file with another comment, and in another version; and the file that a key makes.
use Rattle.std.specs.Prelude.{List, [], ℕ, Result, Ok, Err, if◌then◌else◌}
use Rattle.picky_wire_base.specs.Outcome.{and_then}
use Rattle.picky_kv.specs.declared.PpkVersionKey.{PpkVersionKey}
use Rattle.picky_kv.specs.declared.PpkVersionKey.TheVariants.{V3}
use Rattle.picky_suite.specs.Meanings.{Meanings}
use Rattle.picky_keys.specs.LineRefusal.{is_short}
use Rattle.picky_sshkey_blob.specs.declared.key.SshBasePrivateKey.{SshBasePrivateKey}
use Rattle.picky_sshkey.specs.declared.private_key.SshPrivateKey.{SshPrivateKey}
use Rattle.picky_ppk_parts.specs.declared.error.PuttyError.{PuttyError}
use Rattle.picky_ppk_parts.specs.declared.error.PuttyError.TheVariants as errors
use Rattle.picky_ppk_parts.specs.declared.key_parts.KeyParts.{KeyParts}
use Rattle.picky_ppk_parts.specs.KeyParts.{key_parts}
use Rattle.picky_ppk_file.specs.declared.file.PpkFile.{PpkFile}
use Rattle.picky_ppk_file.specs.declared.file.PpkSealing.TheVariants.{Unsealed}
use Rattle.picky_ppk_file.specs.File.{is_sealed}
use Rattle.picky_ppk.specs.Mac.{with_own_mac}

-- the file, where its private bytes can be seen
abbrev pub open_file : PpkFile → Result PpkFile PuttyError
open_file f = if is_sealed f.sealing then Err errors.Encrypted else Ok f

-- with another comment
unfoldable pub commented : Meanings → List ℕ → PpkFile → Result PpkFile PuttyError
commented m comment f =
    and_then (open_file f) (λ f.
    if is_short comment then Ok (with_own_mac m (record f { comment = comment })) else Err errors.TooLong)

-- in another version
unfoldable pub in_version : Meanings → PpkVersionKey → PpkFile → Result PpkFile PuttyError
in_version m version f =
    and_then (open_file f) (λ f. Ok (with_own_mac m (record f { sealing = Unsealed version })))

-- the parts of a key in a file of a version
abbrev pub file_of_parts : Meanings → PpkVersionKey → List ℕ → KeyParts → PpkFile
file_of_parts m version comment parts = with_own_mac m (record {
  sealing = Unsealed version;
  algorithm = parts.algorithm;
  comment = comment;
  public_key = parts.blob;
  private_bytes = parts.private_bytes;
  mac = [];
})

-- a key and a comment as such a file
unfoldable pub of_base_key : Meanings → PpkVersionKey → SshBasePrivateKey → (comment : List ℕ) → Result PpkFile PuttyError
of_base_key m version key comment = and_then (key_parts key) (λ parts. Ok (file_of_parts m version comment parts))

-- an OpenSSH key as one of version 3
unfoldable pub of_openssh : Meanings → SshPrivateKey → Result PpkFile PuttyError
of_openssh m key = of_base_key m V3 key.base_key key.comment
