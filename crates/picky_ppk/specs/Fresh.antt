-- A file sealed with what a generator gives: first a salt, in version 3, and then the padding.
use Rattle.std.specs.Prelude.{◌≡◌, ◌⊎◌, List, [], ◌++◌, ℕ, zero, suc, ◌+◌, ◌^◌, nat_lt, ◌&&◌, Bool, true, not, length}
use Rattle.std.specs.Prelude.{Result, Ok, Err, if◌then◌else◌}
use Rattle.rand_core.specs.Stream.{Stream, fill_bytes}
use Rattle.picky_kv.specs.declared.PpkVersionKey.{PpkVersionKey}
use Rattle.picky_kv.specs.declared.PpkVersionKey.TheVariants.{V2, V3}
use Rattle.picky_wire_base.specs.declared.error.SizeError.{SizeError}
use Rattle.picky_wire_base.specs.declared.error.SizeError.TheVariants as sizes
use Rattle.picky_suite.specs.Meanings.{Meanings}
use Rattle.picky_suite.specs.Ranges.{argon2_fits}
use Rattle.picky_ppk_parts.specs.declared.config.PpkEncryptionConfig.{PpkEncryptionConfig}
use Rattle.picky_ppk_parts.specs.declared.error.PuttyError.{PuttyError}
use Rattle.picky_ppk_parts.specs.declared.error.PuttyError.TheVariants as errors
use Rattle.picky_ppk_file.specs.declared.file.PpkFile.{PpkFile}
use Rattle.picky_ppk_file.specs.File.{version_of, is_sealed}
use Rattle.picky_ppk.specs.Sealed.{lacking, padding_len, encrypted, file_to_seal, is_sealable}

-- so many bytes of a generator, which isn't asked for none, and what is left of it
abbrev pub drawn : ℕ → Stream → List ℕ × Stream
drawn zero stream = ([], stream)
drawn (suc n) stream = fill_bytes (suc n) stream

-- how long a salt is
abbrev pub salt_len : PpkVersionKey → PpkEncryptionConfig → ℕ
salt_len V2 config = 0
salt_len V3 config = config.argon2_salt_size

pub record Fresh : Type 0 where
  pub salt : List ℕ
  pub padding : List ℕ
  pub left : Stream

-- what is drawn for a file
unfoldable pub fresh_for : PpkEncryptionConfig → PpkFile → Stream → Fresh
fresh_for config f stream =
    let salt = drawn (salt_len (version_of f.sealing) config) stream in
    let padding = drawn (padding_len f) salt.1 in
    record { salt = salt.0; padding = padding.0; left = padding.1 }

-- what a generator may have left: nothing was drawn, or the salt, or all
abbrev pub IsDrawnFrom : PpkEncryptionConfig → PpkFile → (old new : Stream) → Type 0
IsDrawnFrom config f old new =
    (new ≡ old) ⊎ (new ≡ (drawn (salt_len (version_of f.sealing) config) old).1) ⊎ (new ≡ (fresh_for config f old).left)

-- ---- what is judged before the generator is asked

-- Argon2 can be run, where it is
abbrev pub can_derive_by : PpkVersionKey → PpkEncryptionConfig → List ℕ → Bool
can_derive_by V2 config pass = true
can_derive_by V3 config pass =
    argon2_fits config.argon2_memory config.argon2_passes config.argon2_parallelism (length pass) config.argon2_salt_size

abbrev pub can_draw : List ℕ → PpkEncryptionConfig → PpkFile → Bool
can_draw pass config f = not (is_sealed f.sealing) && can_derive_by (version_of f.sealing) config pass

-- the reason why it isn't
abbrev pub not_drawn : PpkFile → PuttyError
not_drawn f = if is_sealed f.sealing then errors.AlreadyEncrypted else errors.Argon2

-- the file sealed, or the first reason why it isn't
unfoldable pub encrypted_fresh : Meanings → (pass : List ℕ) → PpkEncryptionConfig → PpkFile → Stream
    → Result PpkFile PuttyError
encrypted_fresh m pass config f stream =
    let fresh = fresh_for config f stream in
    if can_draw pass config f then encrypted m pass config fresh.salt fresh.padding f else Err (not_drawn f)

-- whether the suite is asked
unfoldable pub asks_fresh : (pass : List ℕ) → PpkEncryptionConfig → PpkFile → Stream → Bool
asks_fresh pass config f stream =
    let fresh = fresh_for config f stream in
    can_draw pass config f && is_sealable pass f (file_to_seal config fresh.salt fresh.padding f)

-- ---- a message

-- the message with what is drawn behind it, up to whole blocks, where a length of the wire can say its length
unfoldable pub padded_fresh : List ℕ → Stream → Result (List ℕ × Stream) SizeError
padded_fresh message stream =
    let padding = drawn (lacking message) stream in
    if nat_lt (length message + lacking message) (2 ^ 32) then Ok (message ++ padding.0, padding.1)
    else Err sizes.TooLong
