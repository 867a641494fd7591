-- What a key text shows to whom has no passphrase: a public key, a comment, and what the text is encrypted by (OpenSSH's
-- PROTOCOL.key, section 1; PuTTY's manual, Appendix C).
use Rattle.std.specs.Prelude.{◌≡◌, Bool, true, false, List, [], ℕ, Option, None, Some, Result, Ok, if◌then◌else◌, length}
use Rattle.std.specs.Str.{bytes_eq}
use Rattle.picky_wire_base.specs.Front.{read_front}
use Rattle.picky_wire_base.specs.Outcome.{and_then, map_err, map_ok}
use Rattle.picky_suite.specs.Meanings.{Meanings}
use Rattle.picky_keys.specs.LineRefusal.{blob_key}
use Rattle.picky_keys.specs.declared.key.SshBasePublicKey.{SshBasePublicKey}
use Rattle.picky_sshkey_blob.specs.PemRefusal.{pem_content}
use Rattle.picky_sshkey_blob.specs.declared.error.SshPrivateKeyError.{SshPrivateKeyError}
use Rattle.picky_sshkey_blob.specs.declared.error.SshPrivateKeyError.TheVariants as private
use Rattle.picky_sshkey.specs.Envelope.{Envelope, envelope as layout}
use Rattle.picky_sshkey.specs.Kdf.{none, bcrypt}
use Rattle.picky_sshkey.specs.PrivateRefusal.{envelope_error}
use Rattle.picky_ppk_parts.specs.PartsRefusal.{key_in_blob}
use Rattle.picky_ppk_parts.specs.declared.config.PpkEncryptionConfig.{PpkEncryptionConfig}
use Rattle.picky_ppk_parts.specs.declared.material.Argon2Params.{Argon2Params}
use Rattle.picky_ppk_file.specs.File.{is_sealed}
use Rattle.picky_ppk_file.specs.FileRefusal.{file_meaning}
use Rattle.picky_ppk_file.specs.declared.file.PpkFile.{PpkFile}
use Rattle.picky_ppk_file.specs.declared.file.PpkSealing.{PpkSealing}
use Rattle.picky_ppk_file.specs.declared.file.PpkSealing.TheVariants as sealings
use Rattle.picky_key_text.specs.Form.{form_of}
use Rattle.picky_key_text.specs.Key.{public_key, public_part}
use Rattle.picky_key_text.specs.Order.{reading}
use Rattle.picky_key_text.specs.declared.error.ReadError.{ReadError}
use Rattle.picky_key_text.specs.declared.error.ReadError.TheVariants as errors
use Rattle.picky_key_text.specs.declared.form.Form.{Form}
use Rattle.picky_key_text.specs.declared.form.Form.TheVariants as forms
use Rattle.picky_key_text.specs.declared.meaning.Meaning.{Meaning}
use Rattle.picky_shown.specs.declared.sealing.ShownSealing.{ShownSealing}
use Rattle.picky_shown.specs.declared.sealing.ShownSealing.TheVariants.{Unsealed, OpenSsh, PpkV2, PpkV3}
use Rattle.picky_shown.specs.declared.showing.Shown.{Shown}

-- ---- an encrypted OpenSSH private key: the public key that stands before the block; the comment stands inside

-- the envelope in a text
unfoldable pub text_envelope : List ℕ → Result Envelope SshPrivateKeyError
text_envelope text =
    and_then (map_err private.PemError (pem_content text)) (λ content.
    map_err envelope_error (read_front layout content))

-- bcrypt's rounds; of another derivation there are none
abbrev pub shown_rounds : Envelope → Option ℕ
shown_rounds e = if bytes_eq e.kdf bcrypt then Some e.option.rounds else None

abbrev pub envelope_shown : Envelope → SshBasePublicKey → Shown
envelope_shown e key = record {
  key = record { inner_key = key; comment = [] };
  sealing = OpenSsh e.cipher e.kdf (shown_rounds e);
}

-- the block is encrypted where a derivation is named, whatever the cipher's name
abbrev pub envelope_shows : Envelope → Result (Option Shown) ReadError
envelope_shows e =
    if bytes_eq e.kdf none then Ok None
    else and_then (map_err errors.Public (blob_key e.outer)) (λ key. Ok (Some (envelope_shown e key)))

-- ---- an encrypted PuTTY private key file: the blob of its public lines, and its comment line

-- what Argon2 is run with, and how long its salt is
abbrev pub shown_config : Argon2Params → PpkEncryptionConfig
shown_config params = record {
  argon2_flavour = params.flavor;
  argon2_memory = params.memory;
  argon2_passes = params.passes;
  argon2_parallelism = params.parallelism;
  argon2_salt_size = length params.salt;
}

abbrev pub sealing_shown : PpkSealing → ShownSealing
sealing_shown (sealings.Unsealed version) = Unsealed
sealing_shown sealings.SealedV2 = PpkV2
sealing_shown (sealings.SealedV3 params) = PpkV3 (shown_config params)

abbrev pub file_shown : PpkFile → SshBasePublicKey → Shown
file_shown f key = record {
  key = record { inner_key = key; comment = f.comment };
  sealing = sealing_shown f.sealing;
}

abbrev pub file_shows : PpkFile → Result (Option Shown) ReadError
file_shows f =
    if is_sealed f.sealing
    then and_then (map_err errors.Putty (key_in_blob f.public_key)) (λ key. Ok (Some (file_shown f key)))
    else Ok None

-- ---- what an encrypted text shows, or the first reason why it shows nothing; none where it isn't encrypted

abbrev pub sealed_shows_as : Form → List ℕ → Result (Option Shown) ReadError
sealed_shows_as forms.Envelope text = and_then (map_err errors.Private (text_envelope text)) envelope_shows
sealed_shows_as forms.Ppk text = and_then (map_err errors.Putty (file_meaning text)) file_shows
sealed_shows_as forms.PuttyPublic text = Ok None
sealed_shows_as forms.Certificate text = Ok None
sealed_shows_as forms.PublicLine text = Ok None

unfoldable pub sealed_shows : List ℕ → Result (Option Shown) ReadError
sealed_shows text = sealed_shows_as (form_of text) text

-- ---- any text: one that isn't encrypted shows what it means without a passphrase

abbrev pub meaning_shown : Meaning → Shown
meaning_shown meaning = record { key = public_key meaning; sealing = Unsealed }

-- a suite's MACs say whether a file that isn't encrypted is one
abbrev pub open_shows : Meanings → List ℕ → Result Shown ReadError
open_shows m text = map_ok meaning_shown (reading (record { meanings = m; pass = None }) text)

abbrev pub shown_else : Result Shown ReadError → Option Shown → Result Shown ReadError
shown_else other None = other
shown_else other (Some shown) = Ok shown

unfoldable pub shows : Meanings → List ℕ → Result Shown ReadError
shows m text = and_then (sealed_shows text) (shown_else (open_shows m text))

-- whether the text is encrypted
abbrev pub is_encrypted : ShownSealing → Bool
is_encrypted Unsealed = false
is_encrypted (OpenSsh cipher kdf rounds) = true
is_encrypted PpkV2 = true
is_encrypted (PpkV3 config) = true

-- ---- what is shown of a text that is read

-- the comment, where it stands open
abbrev pub open_comment : ShownSealing → List ℕ → List ℕ
open_comment Unsealed comment = comment
open_comment (OpenSsh cipher kdf rounds) comment = []
open_comment PpkV2 comment = comment
open_comment (PpkV3 config) comment = comment

-- the key's public part is shown, with the comment where it stands open
pub record IsShownOf (meaning : Meaning) (shown : Shown) : Type 0 where
  pub key : shown.key.inner_key ≡ public_part meaning.key
  pub comment : shown.key.comment ≡ open_comment shown.sealing meaning.comment
