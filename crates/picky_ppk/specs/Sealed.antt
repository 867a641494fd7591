-- A file sealed under a passphrase (PuTTY's manual, Appendix C), and the order in which it is refused.
use Rattle.std.specs.Prelude.{List, ℕ, ◌++◌, ◌-◌, ◌%◌, ◌&&◌, Bool, not, length, Result, Ok, Err, if◌then◌else◌}
use Rattle.picky_kv.specs.declared.PpkVersionKey.{PpkVersionKey}
use Rattle.picky_kv.specs.declared.PpkVersionKey.TheVariants.{V2, V3}
use Rattle.picky_suite.specs.Meanings.{Meanings}
use Rattle.picky_keys.specs.LineRefusal.{is_short}
use Rattle.picky_ppk_parts.specs.declared.config.PpkEncryptionConfig.{PpkEncryptionConfig}
use Rattle.picky_ppk_parts.specs.declared.error.PuttyError.{PuttyError}
use Rattle.picky_ppk_parts.specs.declared.error.PuttyError.TheVariants as errors
use Rattle.picky_ppk_parts.specs.Keys.{Keys}
use Rattle.picky_ppk_file.specs.declared.file.PpkFile.{PpkFile}
use Rattle.picky_ppk_file.specs.declared.file.PpkSealing.{PpkSealing}
use Rattle.picky_ppk_file.specs.declared.file.PpkSealing.TheVariants.{SealedV2, SealedV3}
use Rattle.picky_ppk_file.specs.File.{version_of, is_sealed}
use Rattle.picky_ppk.specs.Keyed.{can_derive, keys_under}
use Rattle.picky_ppk.specs.Mac.{mac_under}

-- what lacks to whole blocks of 16 bytes
abbrev pub lacking : List ℕ → ℕ
lacking message = (16 - length message % 16) % 16

abbrev pub padding_len : PpkFile → ℕ
padding_len f = lacking f.private_bytes

-- what seals a file: in version 3 Argon2 with the configuration's numbers and a salt
abbrev pub sealing_under : PpkVersionKey → PpkEncryptionConfig → (salt : List ℕ) → PpkSealing
sealing_under V2 config salt = SealedV2
sealing_under V3 config salt = SealedV3 (record {
  flavor = config.argon2_flavour;
  memory = config.argon2_memory;
  passes = config.argon2_passes;
  parallelism = config.argon2_parallelism;
  salt = salt;
})

-- the file as it is sealed by this, with its private bytes and padding still open
abbrev pub file_to_seal : PpkEncryptionConfig → (salt padding : List ℕ) → PpkFile → PpkFile
file_to_seal config salt padding f = record f {
  sealing = sealing_under (version_of f.sealing) config salt;
  private_bytes = f.private_bytes ++ padding;
}

-- the draft sealed: its MAC covers the bytes before they are
abbrev pub seal_draft : Meanings → Keys → PpkFile → PpkFile
seal_draft m keys draft = record draft {
  private_bytes = m.cbc_seal keys.key keys.iv draft.private_bytes;
  mac = mac_under m keys.mac_key draft draft.private_bytes;
}

-- ---- what is judged before the suite is asked

abbrev pub is_sealable : (pass : List ℕ) → (f draft : PpkFile) → Bool
is_sealable pass f draft =
    not (is_sealed f.sealing) && can_derive draft.sealing pass && is_short draft.private_bytes

-- the reason why it isn't
abbrev pub not_sealable : (pass : List ℕ) → (f draft : PpkFile) → PuttyError
not_sealable pass f draft =
    if is_sealed f.sealing then errors.AlreadyEncrypted
    else if not (can_derive draft.sealing pass) then errors.Argon2 else errors.TooLong

-- the file sealed, or the first reason why it isn't
unfoldable pub encrypted : Meanings → (pass : List ℕ) → PpkEncryptionConfig → (salt padding : List ℕ) → PpkFile
    → Result PpkFile PuttyError
encrypted m pass config salt padding f =
    let draft = file_to_seal config salt padding f in
    if is_sealable pass f draft then Ok (seal_draft m (keys_under m draft.sealing pass) draft)
    else Err (not_sealable pass f draft)
