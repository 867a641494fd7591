-- What is written of a private key as PuTTY's file, step by step as the code judges it.
use Rattle.std.specs.Prelude.{◌+◌, ◌&&◌, Bool, false, not, List, ℕ, Option, None, Some, Result, Ok, Err}
use Rattle.std.specs.Prelude.{is_ok, length, nat_le, replicate, take, drop, if◌then◌else◌}
use Rattle.picky_wire_base.specs.Outcome.{and_then, map_err}
use Rattle.picky_kv.specs.declared.PpkVersionKey.{PpkVersionKey}
use Rattle.picky_suite.specs.Meanings.{Meanings}
use Rattle.picky_keys.specs.LineRefusal.{is_short}
use Rattle.picky_sshkey_blob.specs.declared.key.SshBasePrivateKey.{SshBasePrivateKey}
use Rattle.picky_sshkey_blob.specs.Key.{public_part}
use Rattle.picky_ppk_parts.specs.declared.config.PpkEncryptionConfig.{PpkEncryptionConfig}
use Rattle.picky_ppk_parts.specs.declared.error.PuttyError.TheVariants as putty
use Rattle.picky_ppk_parts.specs.Unsupported.{no_security_keys}
use Rattle.picky_ppk_file.specs.declared.file.PpkFile.{PpkFile}
use Rattle.picky_ppk_file.specs.File.{version_of}
use Rattle.picky_ppk_file.specs.Written.{file_text, fits_block, file_spelled as file_written}
use Rattle.picky_ppk_file.specs.PuttyRefusal.{is_security_key}
use Rattle.picky_ppk.specs.declared.layout.PpkLayout.{PpkLayout}
use Rattle.picky_ppk.specs.PpkLayout.{laid_file}
use Rattle.picky_ppk.specs.Sealed.{encrypted, file_to_seal}
use Rattle.picky_target.specs.declared.error.ConvertError.{ConvertError}
use Rattle.picky_target.specs.declared.error.ConvertError.TheVariants as errors
use Rattle.picky_target.specs.declared.target.KeyTarget.TheVariants as targets
use Rattle.picky_ppk.specs.Fresh.{salt_len}
use Rattle.picky_target.specs.Drafts.{key_padding_len}
use Rattle.picky_target.specs.Output.{Output}
use Rattle.picky_target.specs.Judged.{carries_comment, derives_under, mac_len}
use Rattle.picky_target.specs.inner.Public.{putty_output_refusal}

-- the text of a file
abbrev pub text_of_file : PpkFile → Result (List ℕ) ConvertError
text_of_file f = map_err putty_output_refusal (file_written f)

-- the file that isn't sealed
abbrev pub plain_ppk : Meanings → PpkVersionKey → PpkLayout → SshBasePrivateKey → (comment : List ℕ)
    → Result PpkFile ConvertError
plain_ppk m version layout key comment = map_err putty_output_refusal (laid_file m version layout key comment)

abbrev pub plain_written : Meanings → PpkVersionKey → PpkLayout → SshBasePrivateKey → (comment : List ℕ)
    → Result (List ℕ) ConvertError
plain_written m version layout key comment = and_then (plain_ppk m version layout key comment) text_of_file

-- the salt and the padding that sealing takes
abbrev pub salt_and_padding : (pass fresh : List ℕ) → PpkVersionKey → PpkEncryptionConfig → PpkLayout → SshBasePrivateKey
    → Result (List ℕ × List ℕ) ConvertError
salt_and_padding pass fresh version config layout key =
    if derives_under (targets.Ppk version config layout) pass
    then (if nat_le (salt_len version config + key_padding_len layout key) (length fresh)
    then Ok (take (salt_len version config) fresh, take (key_padding_len layout key) (drop (salt_len version config) fresh))
    else Err errors.FreshTooShort)
    else Err (errors.Putty putty.Argon2)

-- the draft of a file as it is measured: zeros stand for its MAC
abbrev pub draft_of : PpkEncryptionConfig → (salt padding : List ℕ) → PpkFile → PpkFile
draft_of config salt padding f =
    record (file_to_seal config salt padding f) { mac = replicate (mac_len (version_of f.sealing)) 0 }

-- whether the sealed file has room
abbrev pub measured : PpkEncryptionConfig → (salt padding : List ℕ) → PpkFile → Result (Unit {0}) ConvertError
measured config salt padding f =
    let draft = draft_of config salt padding f in
    if is_short draft.private_bytes && is_short (file_text draft)
    then (if fits_block draft.public_key && fits_block draft.private_bytes then Ok tt else Err errors.TooManyLines)
    else Err errors.TooLong

-- the file before it is sealed, where the sealed one has room
abbrev pub plain_drafted : Meanings → PpkVersionKey → PpkEncryptionConfig → PpkLayout → SshBasePrivateKey
    → (comment salt padding : List ℕ) → Result PpkFile ConvertError
plain_drafted m version config layout key comment salt padding =
    and_then (plain_ppk m version layout key comment) (λ f. and_then (measured config salt padding f) (λ _. Ok f))

-- that file, with its salt and padding: all that is judged before the suite is asked
pub record Sealable : Type 0 where
  pub salt : List ℕ
  pub padding : List ℕ
  pub plain : PpkFile

abbrev pub sealable_file : Meanings → (pass fresh : List ℕ) → PpkVersionKey → PpkEncryptionConfig → PpkLayout → SshBasePrivateKey
    → (comment : List ℕ) → Result Sealable ConvertError
sealable_file m pass fresh version config layout key comment =
    and_then (salt_and_padding pass fresh version config layout key) (λ d.
    and_then (plain_drafted m version config layout key comment d.0 d.1) (λ f.
    Ok (record { salt = d.0; padding = d.1; plain = f })))

abbrev pub sealed_text : Meanings → (pass : List ℕ) → PpkEncryptionConfig → Sealable → Result (List ℕ) ConvertError
sealed_text m pass config s =
    and_then (map_err putty_output_refusal (encrypted m pass config s.salt s.padding s.plain)) text_of_file

abbrev pub sealed_written : Meanings → (pass fresh : List ℕ) → PpkVersionKey → PpkEncryptionConfig → PpkLayout → SshBasePrivateKey
    → (comment : List ℕ) → Result (List ℕ) ConvertError
sealed_written m pass fresh version config layout key comment =
    and_then (sealable_file m pass fresh version config layout key comment) (sealed_text m pass config)

abbrev pub sealed_asks : Meanings → (pass fresh : List ℕ) → PpkVersionKey → PpkEncryptionConfig → PpkLayout → SshBasePrivateKey
    → (comment : List ℕ) → Bool
sealed_asks m pass fresh version config layout key comment = is_ok (sealable_file m pass fresh version config layout key comment)

-- ---- sealed or not

abbrev pub text_under : Meanings → Option (List ℕ) → (fresh : List ℕ) → PpkVersionKey → PpkEncryptionConfig → PpkLayout
    → SshBasePrivateKey → (comment : List ℕ) → Result (List ℕ) ConvertError
text_under m None fresh version config layout key comment = plain_written m version layout key comment
text_under m (Some pass) fresh version config layout key comment = sealed_written m pass fresh version config layout key comment

abbrev pub asks_under : Meanings → Option (List ℕ) → (fresh : List ℕ) → PpkVersionKey → PpkEncryptionConfig → PpkLayout
    → SshBasePrivateKey → (comment : List ℕ) → Bool
asks_under m None fresh version config layout key comment = false
asks_under m (Some pass) fresh version config layout key comment = sealed_asks m pass fresh version config layout key comment

-- a key that PuTTY has, and a comment that the version can hold, come first
abbrev pub ppk_written : Meanings → Output → PpkVersionKey → PpkEncryptionConfig → PpkLayout → SshBasePrivateKey
    → (comment : List ℕ) → Result (List ℕ) ConvertError
ppk_written m out version config layout key comment =
    if is_security_key (public_part key) then Err (errors.Putty no_security_keys)
    else if carries_comment (targets.Ppk version config layout) comment
    then text_under m out.pass out.fresh version config layout key comment else Err errors.CommentNotCarried

abbrev pub ppk_writing_asks : Meanings → Output → PpkVersionKey → PpkEncryptionConfig → PpkLayout → SshBasePrivateKey
    → (comment : List ℕ) → Bool
ppk_writing_asks m out version config layout key comment =
    not (is_security_key (public_part key)) && carries_comment (targets.Ppk version config layout) comment
    && asks_under m out.pass out.fresh version config layout key comment
