-- What a key text shows without a passphrase, part by part.
use Rattle.std.specs.Prelude.{◌≡◌, ◌==◌, List, [], ℕ, Bool, true, Option, None, Some, Result, Ok, Err, codes}
use Rattle.std.specs.Prelude.{if◌then◌else◌}
use Rattle.std.specs.Fmt.{decimal}
use Rattle.std.specs.Option.{ok_or, option_map}
use Rattle.picky_wire_base.specs.Outcome.{and_then, map_err}
use Rattle.picky_kv.specs.Choices.{flavour_literal}
use Rattle.picky_suite.specs.Meanings.{plain}
use Rattle.picky_keys.specs.Line.{line_of}
use Rattle.picky_keys.specs.LineRefusal.{is_short}
use Rattle.picky_keys.specs.declared.key.SshPublicKey.{SshPublicKey}
use Rattle.picky_ppk_parts.specs.declared.config.PpkEncryptionConfig.{PpkEncryptionConfig}
use Rattle.picky_key_text.specs.Reader.{Reader}
use Rattle.picky_key_text.specs.Reads.{Reads}
use Rattle.picky_key_text.specs.declared.meaning.Meaning.{Meaning}
use Rattle.picky_shown.specs.Bits.{key_bits}
use Rattle.picky_shown.specs.Shown.{IsShownOf, is_encrypted, meaning_shown, shows}
use Rattle.picky_shown.specs.declared.sealing.ShownSealing.{ShownSealing}
use Rattle.picky_shown.specs.declared.sealing.ShownSealing.TheVariants.{Unsealed, OpenSsh, PpkV2, PpkV3}
use Rattle.picky_shown.specs.declared.showing.Shown.{Shown}
use Rattle.picky_target.specs.Judged.{carries_comment}
use Rattle.picky_target.specs.declared.error.ConvertError.TheVariants as refusals
use Rattle.picky_target.specs.declared.target.KeyTarget.TheVariants as targets
use Rattle.picky_conversion.specs.Refusal.{input_refusal}
use Rattle.picky_c.specs.Calls.{print}
use Rattle.picky_c.specs.Given.{plain_reader, utf8}
use Rattle.picky_c.specs.Part.{part_of}
use Rattle.picky_c.specs.Refusal.{refusal_of}
use Rattle.picky_c.specs.declared.part.Part.TheVariants as public
use Rattle.picky_c.specs.declared.shown_part.ShownPart.{ShownPart}
use Rattle.picky_c.specs.declared.shown_part.ShownPart.TheVariants as parts
use Rattle.picky_c.specs.declared.error.PickyError.{PickyError}
use Rattle.picky_c.specs.declared.error.PickyError.TheVariants as errors

-- ---- the parts, by number: the first three are those of a public key

abbrev pub shown_part_numbered : ℕ → Option ShownPart
shown_part_numbered number =
    if number == 1 then Some parts.TypeName
    else if number == 2 then Some parts.Blob
    else if number == 3 then Some parts.Comment
    else if number == 4 then Some parts.Line
    else if number == 5 then Some parts.Fingerprint
    else if number == 6 then Some parts.Bits
    else if number == 7 then Some parts.Encrypted
    else if number == 8 then Some parts.Cipher
    else if number == 9 then Some parts.Derivation
    else if number == 10 then Some parts.Rounds
    else if number == 11 then Some parts.Memory
    else if number == 12 then Some parts.Passes
    else if number == 13 then Some parts.Lanes
    else if number == 14 then Some parts.SaltLen
    else None

-- ---- what a text is encrypted by

-- the cipher's name; PuTTY's files have this one alone (PuTTY's manual, Appendix C)
abbrev pub cipher_name : ShownSealing → List ℕ
cipher_name Unsealed = codes "none"
cipher_name (OpenSsh cipher kdf rounds) = cipher
cipher_name PpkV2 = codes "aes256-cbc"
cipher_name (PpkV3 config) = codes "aes256-cbc"

-- the derivation's name; PuTTY's files of version 2 name none, and derive the key by SHA-1
abbrev pub derivation_name : ShownSealing → List ℕ
derivation_name Unsealed = codes "none"
derivation_name (OpenSsh cipher kdf rounds) = kdf
derivation_name PpkV2 = codes "SHA-1"
derivation_name (PpkV3 config) = flavour_literal config.argon2_flavour

-- bcrypt's rounds
abbrev pub rounds_in : ShownSealing → Option ℕ
rounds_in Unsealed = None
rounds_in (OpenSsh cipher kdf rounds) = rounds
rounds_in PpkV2 = None
rounds_in (PpkV3 config) = None

-- what Argon2 is run with
abbrev pub argon2_in : ShownSealing → Option PpkEncryptionConfig
argon2_in Unsealed = None
argon2_in (OpenSsh cipher kdf rounds) = None
argon2_in PpkV2 = None
argon2_in (PpkV3 config) = Some config

abbrev pub memory_in : ShownSealing → Option ℕ
memory_in s = option_map (λ (c : PpkEncryptionConfig). c.argon2_memory) (argon2_in s)

abbrev pub passes_in : ShownSealing → Option ℕ
passes_in s = option_map (λ (c : PpkEncryptionConfig). c.argon2_passes) (argon2_in s)

abbrev pub lanes_in : ShownSealing → Option ℕ
lanes_in s = option_map (λ (c : PpkEncryptionConfig). c.argon2_parallelism) (argon2_in s)

abbrev pub salt_len_in : ShownSealing → Option ℕ
salt_len_in s = option_map (λ (c : PpkEncryptionConfig). c.argon2_salt_size) (argon2_in s)

-- ---- a part, as bytes

-- a number in decimal; no bytes where there is none
abbrev pub number_text : Option ℕ → List ℕ
number_text None = []
number_text (Some n) = decimal n

abbrev pub flag_text : Bool → List ℕ
flag_text flag = if flag then codes "1" else codes "0"

-- the public key line, with the comment, where a line holds that
abbrev pub shown_line : SshPublicKey → Result (List ℕ) PickyError
shown_line key =
    if carries_comment targets.OpenSshPublic key.comment
    then (if is_short (line_of key) then Ok (line_of key) else Err (errors.Refused refusals.TooLong))
    else Err (errors.Refused refusals.CommentNotCarried)

abbrev pub part_shown : ShownPart → Shown → Result (List ℕ) PickyError
part_shown parts.TypeName s = Ok (part_of public.TypeName s.key)
part_shown parts.Blob s = Ok (part_of public.Blob s.key)
part_shown parts.Comment s = Ok (part_of public.Comment s.key)
part_shown parts.Line s = shown_line s.key
part_shown parts.Fingerprint s = Ok (print s.key)
part_shown parts.Bits s = Ok (decimal (key_bits s.key.inner_key))
part_shown parts.Encrypted s = Ok (flag_text (is_encrypted s.sealing))
part_shown parts.Cipher s = Ok (cipher_name s.sealing)
part_shown parts.Derivation s = Ok (derivation_name s.sealing)
part_shown parts.Rounds s = Ok (number_text (rounds_in s.sealing))
part_shown parts.Memory s = Ok (number_text (memory_in s.sealing))
part_shown parts.Passes s = Ok (number_text (passes_in s.sealing))
part_shown parts.Lanes s = Ok (number_text (lanes_in s.sealing))
part_shown parts.SaltLen s = Ok (number_text (salt_len_in s.sealing))

-- ---- the call

-- what the text shows, or the first reason why it shows nothing
abbrev pub shown_of : List ℕ → Result Shown PickyError
shown_of text =
    and_then (utf8 errors.TextNotUtf8 text) (λ text.
    map_err (λ e. refusal_of (input_refusal e)) (shows plain text))

-- its part with a number
abbrev pub shown_part_in : (text : List ℕ) → (part : ℕ) → Result (List ℕ) PickyError
shown_part_in text part =
    and_then (ok_or (shown_part_numbered part) errors.NoSuchPart) (λ part.
    and_then (shown_of text) (part_shown part))

-- ---- and what that means

-- The text shows this. One that isn't encrypted means it. Whoever opens an encrypted one, by whatever ciphers and passphrase,
-- reads a key with this public part, and with this comment, where it stands open.
pub record IsShownBy (text : List ℕ) (shown : Shown) : Type 0 where
  pub says : shows plain text ≡ Ok shown
  pub bare : shown.sealing ≡ Unsealed
      → (meaning : Meaning) × Reads plain_reader text meaning × (shown ≡ meaning_shown meaning)
  pub opened : is_encrypted shown.sealing ≡ true → (r : Reader) (meaning : Meaning) → Reads r text meaning
      → IsShownOf meaning shown

abbrev pub IsShownPart : (text : List ℕ) → (part : ℕ) → (bytes : List ℕ) → Type 0
IsShownPart text number bytes =
    (shown : Shown) × IsShownBy text shown
    × ((part : ShownPart) × (shown_part_numbered number ≡ Some part) × (part_shown part shown ≡ Ok bytes))
