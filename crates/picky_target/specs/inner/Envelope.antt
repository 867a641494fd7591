-- What is written of a private key as OpenSSH's, step by step as the code judges it.
use Rattle.std.specs.Prelude.{Bool, false, List, ℕ, Option, None, Some, Result, Ok, Err, length, nat_le, take}
use Rattle.std.specs.Prelude.{if◌then◌else◌}
use Rattle.picky_wire_base.specs.Outcome.{and_then, map_err}
use Rattle.picky_suite.specs.Meanings.{Meanings}
use Rattle.picky_suite.specs.Ranges.{bcrypt_fits}
use Rattle.picky_sshkey_blob.specs.declared.error.SshPrivateKeyError.{SshPrivateKeyError}
use Rattle.picky_sshkey_blob.specs.declared.error.SshPrivateKeyError.TheVariants as private
use Rattle.picky_sshkey_blob.specs.declared.key.SshBasePrivateKey.{SshBasePrivateKey}
use Rattle.picky_sshkey.specs.declared.private_key.SshPrivateKey.{SshPrivateKey}
use Rattle.picky_sshkey.specs.Made.{key_made}
use Rattle.picky_sshkey.specs.Written.{key_text, text_writing_asks}
use Rattle.picky_target.specs.declared.error.ConvertError.{ConvertError}
use Rattle.picky_target.specs.declared.error.ConvertError.TheVariants as errors
use Rattle.picky_target.specs.declared.target.KeyTarget.TheVariants as targets
use Rattle.picky_target.specs.Drafts.{with_rounds}
use Rattle.picky_target.specs.Output.{Output}
use Rattle.picky_target.specs.Judged.{carries_comment}

-- bcrypt can be run, and there is a salt
abbrev pub salt_judged : (rounds : ℕ) → Option (List ℕ) → (fresh : List ℕ) → Result (Unit {0}) ConvertError
salt_judged rounds None fresh = Ok tt
salt_judged rounds (Some pass) fresh =
    if bcrypt_fits (length pass) 16 rounds then (if nat_le 16 (length fresh) then Ok tt else Err errors.FreshTooShort)
    else Err (errors.Private private.HashingError)

-- a refusal of OpenSSH's key as the conversion's: what is too long is the text
abbrev pub envelope_output_refusal : SshPrivateKeyError → ConvertError
envelope_output_refusal private.NoMemory = errors.NoMemory
envelope_output_refusal private.TooLong = errors.TooLong
envelope_output_refusal e = errors.Private e

-- the key of these parts
abbrev pub made : (rounds : ℕ) → Option (List ℕ) → SshBasePrivateKey → (comment salt : List ℕ) → Result SshPrivateKey ConvertError
made rounds pass key comment salt =
    and_then (map_err envelope_output_refusal (key_made key pass comment salt)) (λ k. Ok (with_rounds rounds k))

-- OpenSSH's key, where it carries the comment, and bcrypt can be run with the passphrase and has fresh bytes enough
abbrev pub envelope_drafted : Output → (rounds : ℕ) → SshBasePrivateKey → (comment : List ℕ) → Result SshPrivateKey ConvertError
envelope_drafted out rounds key comment =
    if carries_comment (targets.OpenSsh rounds) comment
    then and_then (salt_judged rounds out.pass out.fresh) (λ _. made rounds out.pass key comment (take 16 out.fresh))
    else Err errors.CommentNotCarried

-- its text
abbrev pub text_of_key : Meanings → SshPrivateKey → Result (List ℕ) ConvertError
text_of_key m key = map_err envelope_output_refusal (key_text m key)

abbrev pub envelope_written : Meanings → Output → (rounds : ℕ) → SshBasePrivateKey → (comment : List ℕ)
    → Result (List ℕ) ConvertError
envelope_written m out rounds key comment = and_then (envelope_drafted out rounds key comment) (text_of_key m)

-- the suite is asked
abbrev pub draft_asks : Result SshPrivateKey ConvertError → Bool
draft_asks (Ok key) = text_writing_asks key
draft_asks (Err e) = false

abbrev pub envelope_asks : Output → (rounds : ℕ) → SshBasePrivateKey → (comment : List ℕ) → Bool
envelope_asks out rounds key comment = draft_asks (envelope_drafted out rounds key comment)
