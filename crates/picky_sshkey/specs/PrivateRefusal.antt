-- The order in which an OpenSSH private key is refused: its text, its envelope by field, what would open its block, and
-- then, of what the suite answered, its block by field and its public key.
use Rattle.std.specs.Prelude.{◌||◌, ◌%◌, ◌==◌, Bool, false, List, ℕ, Option, None, Some, Result, Ok, Err, length}
use Rattle.std.specs.Prelude.{if◌then◌else◌, is_some, not}
use Rattle.std.specs.Option.{ok_or}
use Rattle.std.specs.Str.{bytes_eq}
use Rattle.picky_wire_base.specs.Flaw.{Why, Reason, Flawed, Length, Magic, Name, Number}
use Rattle.picky_wire_base.specs.Front.{read_front}
use Rattle.picky_wire_base.specs.Outcome.{and_then, map_err}
use Rattle.picky_wire_base.specs.Table.{find_entry}
use Rattle.picky_sshkey_blob.specs.PemRefusal.{pem_content}
use Rattle.picky_suite.specs.Meanings.{Meanings}
use Rattle.picky_suite.specs.Ranges.{bcrypt_fits}
use Rattle.picky_keys.specs.Blob.{blob, blob_of}
use Rattle.picky_keys.specs.LineRefusal.{is_short_text}
use Rattle.picky_keys.specs.declared.key.SshBasePublicKey.{SshBasePublicKey}
use Rattle.picky_sshkey_blob.specs.declared.pem_error.PemError.{PemError}
use Rattle.picky_sshkey_blob.specs.declared.error.SshPrivateKeyError.{SshPrivateKeyError}
use Rattle.picky_sshkey_blob.specs.declared.error.SshPrivateKeyError.TheVariants as errors
use Rattle.picky_sshkey_blob.specs.declared.key.SshBasePrivateKey.{SshBasePrivateKey}
use Rattle.picky_sshkey_blob.specs.Key.{public_part}
use Rattle.picky_sshkey.specs.declared.cipher.Cipher.{Cipher}
use Rattle.picky_sshkey.specs.declared.private_key.SshPrivateKey.{SshPrivateKey}
use Rattle.picky_sshkey.specs.Cipher.{ciphers, is_cbc}
use Rattle.picky_sshkey.specs.Envelope.{Envelope, envelope as layout}
use Rattle.picky_sshkey.specs.PrivateBlock.{PrivateBlock, private_block, flaw_error}
use Rattle.picky_sshkey.specs.Opened.{Lock, opened}
use Rattle.picky_sshkey.specs.Kdf.{none, bcrypt}
use Rattle.picky_sshkey.specs.PrivateText.{key_in}

-- ---- before the suite is asked

-- the error for what is wrong with a field of the envelope, which has no names and no lengths to be wrong
abbrev pub envelope_why : Why → SshPrivateKeyError
envelope_why (Flawed flaw) = flaw_error flaw
envelope_why Magic = errors.InvalidAuthMagicHeader
envelope_why (Number n) = errors.InvalidKeysAmount n
envelope_why Length = errors.InvalidKeyFormat
envelope_why (Name name) = errors.InvalidKeyFormat

abbrev pub envelope_error : Reason → SshPrivateKeyError
envelope_error reason = envelope_why reason.1

-- a cipher that chains takes whole blocks
abbrev pub takes_block : Cipher → List ℕ → Bool
takes_block cipher block = not (is_cbc cipher) || length block % 16 == 0

-- the lock of a cipher and a passphrase, where the block fits the cipher and the passphrase may be derived from
abbrev pub lock_under : Envelope → Cipher → List ℕ → Result Lock SshPrivateKeyError
lock_under envelope cipher pass =
    if bcrypt_fits (length pass) (length envelope.option.salt) envelope.option.rounds
    then if takes_block cipher envelope.block
    then Ok (record { cipher = cipher; pass = pass }) else Err errors.DecryptionError
    else Err errors.HashingError

-- the lock of a block that is sealed
unfoldable pub sealed_under : Option (List ℕ) → Envelope → Result Lock SshPrivateKeyError
sealed_under given envelope =
    and_then (ok_or (find_entry ciphers envelope.cipher) (errors.UnsupportedCipher envelope.cipher)) (λ cipher.
    if bytes_eq envelope.kdf bcrypt
    then and_then (ok_or given errors.MissingPassphrase) (lock_under envelope cipher)
    else Err (errors.UnsupportedKdf envelope.kdf))

-- the lock of the block, and none where no derivation is named
unfoldable pub lock_of : Option (List ℕ) → Envelope → Result (Option Lock) SshPrivateKeyError
lock_of given envelope =
    if bytes_eq envelope.kdf none then Ok None else and_then (sealed_under given envelope) (λ lock. Ok (Some lock))

-- an envelope, and what opens it
pub record Closed : Type 0 where
  pub envelope : Envelope
  pub lock : Option Lock

-- the envelope of the content; the passphrase is kept, so it must be short whether or not it is needed
unfoldable pub envelope_under : Option (List ℕ) → List ℕ → Result Envelope SshPrivateKeyError
envelope_under given content =
    if is_short_text given then map_err envelope_error (read_front layout content) else Err errors.TooLong

-- that envelope, and what opens it
unfoldable pub closed : Option (List ℕ) → List ℕ → Result Closed SshPrivateKeyError
closed given content =
    and_then (envelope_under given content) (λ envelope.
    and_then (lock_of given envelope) (λ lock. Ok (record { envelope = envelope; lock = lock })))

-- ---- after it

-- the block, opened
abbrev pub plain_of : Meanings → Envelope → Option Lock → List ℕ
plain_of m envelope None = envelope.block
plain_of m envelope (Some lock) = opened m lock envelope.option envelope.block

-- the key, written canonically, is the public part of the private one
abbrev pub says_public : SshBasePrivateKey → Result SshBasePublicKey Reason → Bool
says_public key (Ok other) = bytes_eq (blob_of other) (blob_of (public_part key))
says_public key (Err reason) = false

unfoldable pub is_public_part : List ℕ → SshBasePrivateKey → Bool
is_public_part outer key = says_public key (read_front blob outer)

-- the key of a block, where the envelope's public key is its public part
abbrev pub key_of_block : Option (List ℕ) → Envelope → PrivateBlock → Result SshPrivateKey SshPrivateKeyError
key_of_block given envelope block =
    if is_public_part envelope.outer block.key then Ok (key_in given envelope block) else Err errors.PublicKeyMismatch

-- the key that was closed
unfoldable pub key_closed : Meanings → Option (List ℕ) → Closed → Result SshPrivateKey SshPrivateKeyError
key_closed m given c =
    and_then (read_front private_block (plain_of m c.envelope c.lock)) (key_of_block given c.envelope)

-- ---- both

-- what the content says, or the first reason why it says nothing
unfoldable pub content_key : Meanings → Option (List ℕ) → List ℕ → Result SshPrivateKey SshPrivateKeyError
content_key m given content = and_then (closed given content) (key_closed m given)

-- the suite is asked, since the block is sealed and nothing was refused before
abbrev pub is_locked : Result Closed SshPrivateKeyError → Bool
is_locked (Ok c) = is_some c.lock
is_locked (Err e) = false

unfoldable pub content_asks : Option (List ℕ) → List ℕ → Bool
content_asks given content = is_locked (closed given content)

-- the same of a text
unfoldable pub text_key : Meanings → Option (List ℕ) → List ℕ → Result SshPrivateKey SshPrivateKeyError
text_key m given text = and_then (map_err errors.PemError (pem_content text)) (content_key m given)

abbrev pub pem_asks : Option (List ℕ) → Result (List ℕ) PemError → Bool
pem_asks given (Ok content) = content_asks given content
pem_asks given (Err e) = false

unfoldable pub text_asks : Option (List ℕ) → List ℕ → Bool
text_asks given text = pem_asks given (pem_content text)
