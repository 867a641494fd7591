-- The order in which a target refuses a meaning: each place as a test, and the refusal of the first that fails.
use Rattle.std.specs.Prelude.{◌==◌, ◌&&◌, ◌-◌, ◌^◌, Bool, true, false, not, List, [], ◌∷◌, ℕ, Option, None, Some}
use Rattle.std.specs.Prelude.{Result, Ok, Err, length, slice_index, nat_le, nat_lt, if◌then◌else◌, replicate}
use Rattle.std.specs.List.{list_any}
use Rattle.std.specs.Str.{bytes_eq, trim_end}
use Rattle.picky_kv.specs.declared.PpkVersionKey.{PpkVersionKey}
use Rattle.picky_kv.specs.declared.PpkVersionKey.TheVariants.{V2, V3}
use Rattle.picky_text.specs.Words.{ends_line}
use Rattle.picky_suite.specs.Ranges.{bcrypt_fits}
use Rattle.picky_keys.specs.Blob.{blob_of}
use Rattle.picky_keys.specs.Line.{line_of}
use Rattle.picky_keys.specs.LineRefusal.{is_short}
use Rattle.picky_sshkey_blob.specs.declared.error.SshPrivateKeyError.TheVariants as private
use Rattle.picky_sshkey_blob.specs.declared.key.SshBasePrivateKey.{SshBasePrivateKey}
use Rattle.picky_sshkey_blob.specs.Key.{public_part as public_part_of}
use Rattle.picky_sshkey.specs.declared.private_key.SshPrivateKey.{SshPrivateKey}
use Rattle.picky_sshkey.specs.Written.{envelope_of, plain_block, text_len}
use Rattle.picky_ppk_parts.specs.declared.config.PpkEncryptionConfig.{PpkEncryptionConfig}
use Rattle.picky_ppk_parts.specs.declared.error.PuttyError.TheVariants as putty
use Rattle.picky_ppk_parts.specs.Unsupported.{no_security_keys}
use Rattle.picky_ppk_file.specs.declared.file.PpkFile.{PpkFile}
use Rattle.picky_ppk_file.specs.declared.file.PpkSealing.{PpkSealing}
use Rattle.picky_ppk_file.specs.declared.file.PpkSealing.TheVariants.{Unsealed}
use Rattle.picky_ppk_file.specs.Written.{file_text, fits_block}
use Rattle.picky_ppk.specs.declared.layout.PpkLayout.{PpkLayout}
use Rattle.picky_ppk.specs.Fresh.{can_derive_by}
use Rattle.picky_ppk.specs.Sealed.{sealing_under}
use Rattle.picky_ppk_file.specs.PuttyPublic.{putty_public}
use Rattle.picky_ppk_file.specs.PuttyRefusal.{is_security_key}
use Rattle.picky_key_text.specs.declared.meaning.Key.{Key}
use Rattle.picky_key_text.specs.declared.meaning.Key.TheVariants as keys
use Rattle.picky_key_text.specs.declared.meaning.Meaning.{Meaning}
use Rattle.picky_key_text.specs.Key.{public_part, public_key}
use Rattle.picky_target.specs.declared.error.ConvertError.{ConvertError}
use Rattle.picky_target.specs.declared.error.ConvertError.TheVariants as errors
use Rattle.picky_target.specs.declared.target.KeyTarget.{KeyTarget}
use Rattle.picky_target.specs.declared.target.KeyTarget.TheVariants as targets
use Rattle.picky_target.specs.Output.{Output}
use Rattle.picky_target.specs.Drafts.{openssh_key, key_parts_of, private_bytes, salt_of}
use Rattle.picky_target.specs.Carried.{Place, fresh_needed, places}
use Rattle.picky_target.specs.Carried.{PrivateKey, Kind, Comment, Derivation, Fresh, Length, Lines}

-- ---- each place as a test

abbrev pub is_private : Key → Bool
is_private (keys.Private key) = true
is_private (keys.Public key) = false

abbrev pub has_needed_secret : KeyTarget → Key → Bool
has_needed_secret (targets.OpenSsh rounds) key = is_private key
has_needed_secret (targets.Ppk version config layout) key = is_private key
has_needed_secret targets.OpenSshPublic key = true
has_needed_secret targets.PuttyPublic key = true

abbrev pub has_kind : KeyTarget → Key → Bool
has_kind (targets.OpenSsh rounds) key = true
has_kind (targets.Ppk version config layout) key = not (is_security_key (public_part key))
has_kind targets.OpenSshPublic key = true
has_kind targets.PuttyPublic key = not (is_security_key (public_part key))

abbrev pub has_lf : List ℕ → Bool
has_lf comment = list_any (λ b. b == 10) comment

abbrev pub ends_in_cr : List ℕ → Bool
ends_in_cr comment = slice_index comment (length comment - 1) == 13

abbrev pub is_trimmed : List ℕ → Bool
is_trimmed comment = bytes_eq (trim_end comment) comment

abbrev pub carries_comment : KeyTarget → List ℕ → Bool
carries_comment (targets.OpenSsh rounds) comment = is_trimmed comment
carries_comment (targets.Ppk V2 config layout) comment = not (has_lf comment)
carries_comment (targets.Ppk V3 config layout) comment = not (has_lf comment) && not (ends_in_cr comment)
carries_comment targets.OpenSshPublic comment = not (list_any ends_line comment) && is_trimmed comment
carries_comment targets.PuttyPublic comment = not (has_lf comment)

abbrev pub derives_under : KeyTarget → List ℕ → Bool
derives_under (targets.OpenSsh rounds) pass = bcrypt_fits (length pass) 16 rounds
derives_under (targets.Ppk version config layout) pass = can_derive_by version config pass
derives_under targets.OpenSshPublic pass = true
derives_under targets.PuttyPublic pass = true

abbrev pub derives : KeyTarget → Option (List ℕ) → Bool
derives target None = true
derives target (Some pass) = derives_under target pass

-- ---- lengths: sealing changes none, so what is measured has its private bytes still open, and zeros for its MAC

abbrev pub is_short_envelope : SshPrivateKey → Bool
is_short_envelope key = nat_lt (text_len (envelope_of key (plain_block key))) (2 ^ 32)

abbrev pub mac_len : PpkVersionKey → ℕ
mac_len V2 = 20
mac_len V3 = 32

abbrev pub sealing_of : Output → PpkVersionKey → PpkEncryptionConfig → Option (List ℕ) → PpkSealing
sealing_of out version config None = Unsealed version
sealing_of out version config (Some pass) = sealing_under version config (salt_of out version config)

abbrev pub measured_file : Output → PpkVersionKey → PpkEncryptionConfig → PpkLayout → SshBasePrivateKey
    → (comment : List ℕ) → PpkFile
measured_file out version config layout key comment = record {
  sealing = sealing_of out version config out.pass;
  algorithm = (key_parts_of layout key).algorithm;
  comment = comment;
  public_key = blob_of (public_part_of key);
  private_bytes = private_bytes out version config layout key;
  mac = replicate (mac_len version) 0;
}

abbrev pub secret_has_room : Output → KeyTarget → SshBasePrivateKey → (comment : List ℕ) → Bool
secret_has_room out (targets.OpenSsh rounds) key comment = is_short_envelope (openssh_key out rounds key comment)
secret_has_room out (targets.Ppk version config layout) key comment =
    is_short (blob_of (public_part_of key)) && is_short (private_bytes out version config layout key)
    && is_short (file_text (measured_file out version config layout key comment))
secret_has_room out targets.OpenSshPublic key comment = true
secret_has_room out targets.PuttyPublic key comment = true

abbrev pub key_has_room : Output → KeyTarget → Key → (comment : List ℕ) → Bool
key_has_room out target (keys.Private key) comment = secret_has_room out target key comment
key_has_room out target (keys.Public key) comment = true

abbrev pub has_room : Output → KeyTarget → Meaning → Bool
has_room out (targets.OpenSsh rounds) meaning = key_has_room out (targets.OpenSsh rounds) meaning.key meaning.comment
has_room out (targets.Ppk version config layout) meaning =
    key_has_room out (targets.Ppk version config layout) meaning.key meaning.comment
has_room out targets.OpenSshPublic meaning = is_short (line_of (public_key meaning))
has_room out targets.PuttyPublic meaning =
    is_short (blob_of (public_part meaning.key))
    && is_short (putty_public (blob_of (public_part meaning.key)) meaning.comment)

abbrev pub file_has_lines : Output → PpkVersionKey → PpkEncryptionConfig → PpkLayout → Key → Bool
file_has_lines out version config layout (keys.Private key) =
    fits_block (blob_of (public_part_of key)) && fits_block (private_bytes out version config layout key)
file_has_lines out version config layout (keys.Public key) = true

abbrev pub has_lines : Output → KeyTarget → Key → Bool
has_lines out (targets.OpenSsh rounds) key = true
has_lines out (targets.Ppk version config layout) key = file_has_lines out version config layout key
has_lines out targets.OpenSshPublic key = true
has_lines out targets.PuttyPublic key = true

abbrev pub passes : Output → KeyTarget → Meaning → Place → Bool
passes out target meaning PrivateKey = has_needed_secret target meaning.key
passes out target meaning Kind = has_kind target meaning.key
passes out target meaning Comment = carries_comment target meaning.comment
passes out target meaning Derivation = derives target out.pass
passes out target meaning Fresh = nat_le (fresh_needed out target meaning.key) (length out.fresh)
passes out target meaning Length = has_room out target meaning
passes out target meaning Lines = has_lines out target meaning.key

-- ---- the first that fails

-- PuTTY's keys are derived by Argon2, and OpenSSH's by bcrypt
abbrev pub not_derived : KeyTarget → ConvertError
not_derived (targets.OpenSsh rounds) = errors.Private private.HashingError
not_derived target = errors.Putty putty.Argon2

abbrev pub place_refusal : KeyTarget → Place → ConvertError
place_refusal target PrivateKey = errors.NoPrivateKey
place_refusal target Kind = errors.Putty no_security_keys
place_refusal target Comment = errors.CommentNotCarried
place_refusal target Derivation = not_derived target
place_refusal target Fresh = errors.FreshTooShort
place_refusal target Length = errors.TooLong
place_refusal target Lines = errors.TooManyLines

abbrev pub first_failing : (Place → Bool) → (Place → ConvertError) → List Place → Result (Unit {0}) ConvertError
first_failing test error [] = Ok tt
first_failing test error (place ∷ more) = if test place then first_failing test error more else Err (error place)

unfoldable pub judged_meaning : Output → KeyTarget → Meaning → Result (Unit {0}) ConvertError
judged_meaning out target meaning = first_failing (passes out target meaning) (place_refusal target) places
