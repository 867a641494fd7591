-- The one spelling of a private key (OpenSSH's PROTOCOL.key): its block, its envelope, its text.
use Rattle.std.specs.Prelude.{List, [], ◌∷◌, ◌++◌, ℕ, zero, suc, ◌+◌, ◌-◌, ◌%◌, ◌^◌, Option, None, Some, length}
use Rattle.std.specs.Prelude.{if◌then◌else◌, nat_lt, Result, Ok, Err, Bool, true, false, is_some}
use Rattle.std.specs.Int.{w32, to_be_bytes}
use Rattle.std.specs.List.{concat}
use Rattle.picky_wire_base.specs.Outcome.{and_then}
use Rattle.picky_wire_base.specs.Wire.{string_of}
use Rattle.picky_sshkey_blob.specs.Pem.{pem_text}
use Rattle.picky_suite.specs.Meanings.{Meanings}
use Rattle.picky_suite.specs.Ranges.{bcrypt_fits}
use Rattle.picky_keys.specs.Blob.{blob_of}
use Rattle.picky_sshkey_blob.specs.declared.error.SshPrivateKeyError.{SshPrivateKeyError}
use Rattle.picky_sshkey_blob.specs.declared.error.SshPrivateKeyError.TheVariants as errors
use Rattle.picky_sshkey_blob.specs.Blob.{secret_of}
use Rattle.picky_sshkey_blob.specs.Key.{public_part}
use Rattle.picky_sshkey.specs.declared.cipher.Cipher.TheVariants.{Aes256Ctr}
use Rattle.picky_sshkey.specs.declared.kdf.KdfOption.{KdfOption}
use Rattle.picky_sshkey.specs.declared.private_key.SshPrivateKey.{SshPrivateKey}
use Rattle.picky_sshkey.specs.CipherNames.{cipher_name}
use Rattle.picky_sshkey.specs.Kdf.{none, bcrypt, kdf_option_of, no_option}
use Rattle.picky_sshkey.specs.Envelope.{magic}
use Rattle.picky_sshkey.specs.Opened.{Lock, opened}

-- so many numbers from n on, each one more
abbrev pub count_up : ℕ → ℕ → List ℕ
count_up n zero = []
count_up n (suc more) = n ∷ count_up (n + 1) more

-- 1, 2, 3 and so on up to a multiple of the unit, a whole unit where the block is one
abbrev pub block_padding : ℕ → List ℕ → List ℕ
block_padding unit block = count_up 1 (unit - length block % unit)

-- the block without its padding
unfoldable pub unpadded_block : SshPrivateKey → List ℕ
unpadded_block key = concat (
    to_be_bytes w32 key.check ∷ to_be_bytes w32 key.check ∷ secret_of key.base_key ∷ string_of key.comment ∷ [])

-- what the padding fills: 16 bytes where the block is sealed, and else 8
abbrev pub unit_of : Option (List ℕ) → ℕ
unit_of None = 8
unit_of (Some pass) = 16

-- the block that is written or sealed
unfoldable pub plain_block : SshPrivateKey → List ℕ
plain_block key = unpadded_block key ++ block_padding (unit_of key.passphrase) (unpadded_block key)

-- the names and options that are written, whatever those are that the key has
abbrev pub written_cipher : Option (List ℕ) → List ℕ
written_cipher None = none
written_cipher (Some pass) = cipher_name Aes256Ctr

abbrev pub written_kdf : Option (List ℕ) → List ℕ
written_kdf None = none
written_kdf (Some pass) = bcrypt

abbrev pub written_option : Option (List ℕ) → KdfOption → KdfOption
written_option None option = no_option
written_option (Some pass) option = option

-- the envelope of the key round a block
unfoldable pub envelope_of : SshPrivateKey → List ℕ → List ℕ
envelope_of key block = concat (
    magic ∷ (0 ∷ []) ∷ string_of (written_cipher key.passphrase) ∷ string_of (written_kdf key.passphrase)
    ∷ kdf_option_of (written_option key.passphrase key.kdf.option) ∷ to_be_bytes w32 1
    ∷ string_of (blob_of (public_part key.base_key)) ∷ string_of block ∷ [])

-- ---- the order in which a key isn't written: before the suite is asked

-- the passphrase may be derived from, where there is one
abbrev pub may_derive : Option (List ℕ) → KdfOption → Bool
may_derive None option = true
may_derive (Some pass) option = bcrypt_fits (length pass) (length option.salt) option.rounds

-- the lock under which a key with this passphrase is sealed
abbrev pub lock_kept : Option (List ℕ) → Option Lock
lock_kept None = None
lock_kept (Some pass) = Some (record { cipher = Aes256Ctr; pass = pass })

-- that lock, where what is written is short; sealing changes no length
unfoldable pub sealable : (List ℕ → ℕ) → SshPrivateKey → Result (Option Lock) SshPrivateKeyError
sealable measure key =
    if may_derive key.passphrase key.kdf.option
    then if nat_lt (measure (envelope_of key (plain_block key))) (2 ^ 32)
    then Ok (lock_kept key.passphrase) else Err errors.TooLong
    else Err errors.HashingError

-- the suite is asked, since there is a passphrase and nothing was refused
abbrev pub is_kept : Result (Option Lock) SshPrivateKeyError → Bool
is_kept (Ok lock) = is_some lock
is_kept (Err e) = false

-- ---- and what is written then

-- the block, sealed where there is a lock
abbrev pub sealed_block : Meanings → Option Lock → SshPrivateKey → List ℕ
sealed_block m None key = plain_block key
sealed_block m (Some lock) key = opened m lock key.kdf.option (plain_block key)

-- the content of the key's envelope
abbrev pub content_under : Meanings → SshPrivateKey → Option Lock → List ℕ
content_under m key lock = envelope_of key (sealed_block m lock key)

-- the content, or the first reason why there is none
unfoldable pub key_content : Meanings → SshPrivateKey → Result (List ℕ) SshPrivateKeyError
key_content m key = and_then (sealable length key) (λ lock. Ok (content_under m key lock))

unfoldable pub key_writing_asks : SshPrivateKey → Bool
key_writing_asks key = is_kept (sealable length key)

-- the same of the text
abbrev pub text_len : List ℕ → ℕ
text_len content = length (pem_text content)

unfoldable pub key_text : Meanings → SshPrivateKey → Result (List ℕ) SshPrivateKeyError
key_text m key = and_then (sealable text_len key) (λ lock. Ok (pem_text (content_under m key lock)))

unfoldable pub text_writing_asks : SshPrivateKey → Bool
text_writing_asks key = is_kept (sealable text_len key)
