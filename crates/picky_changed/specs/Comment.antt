-- A key text with another comment, and the order in which that is refused. Nothing else of the text's key or file changes.
use Rattle.std.specs.Prelude.{◌≡◌, List, ℕ, None, Result, Ok, Err, if◌then◌else◌}
use Rattle.picky_wire_base.specs.Outcome.{and_then, map_err}
use Rattle.picky_suite.specs.Meanings.{Meanings}
use Rattle.picky_keys.specs.LineRefusal.{is_short, line_meaning, line_text}
use Rattle.picky_keys.specs.declared.error.SshPublicKeyError.{SshPublicKeyError}
use Rattle.picky_keys.specs.declared.error.SshPublicKeyError.TheVariants as public
use Rattle.picky_keys.specs.declared.key.SshPublicKey.{SshPublicKey}
use Rattle.picky_sshkey_blob.specs.declared.error.SshPrivateKeyError.{SshPrivateKeyError}
use Rattle.picky_sshkey_blob.specs.declared.error.SshPrivateKeyError.TheVariants as private
use Rattle.picky_sshkey.specs.PrivateRefusal.{text_key}
use Rattle.picky_sshkey.specs.Written.{key_text}
use Rattle.picky_sshkey.specs.declared.private_key.SshPrivateKey.{SshPrivateKey}
use Rattle.picky_ppk_parts.specs.Config.{default_config}
use Rattle.picky_ppk_parts.specs.declared.error.PuttyError.{PuttyError}
use Rattle.picky_ppk_parts.specs.declared.error.PuttyError.TheVariants as putty
use Rattle.picky_ppk_file.specs.File.{version_of}
use Rattle.picky_ppk_file.specs.PuttyRefusal.{putty_commented, putty_meaning, putty_text, putty_to_openssh}
use Rattle.picky_ppk_file.specs.Written.{file_spelled}
use Rattle.picky_ppk_file.specs.declared.file.PpkFile.{PpkFile}
use Rattle.picky_ppk_file.specs.declared.putty_public.PuttyPublicKey.{PuttyPublicKey}
use Rattle.picky_ppk.specs.declared.layout.PpkLayout.TheVariants.{Number}
use Rattle.picky_ppk.specs.Changed.{commented}
use Rattle.picky_ppk.specs.Checked.{ppk_meaning}
use Rattle.picky_ppk.specs.KeyOf.{base_key_of}
use Rattle.picky_key_text.specs.Form.{form_of}
use Rattle.picky_key_text.specs.Order.{reading}
use Rattle.picky_key_text.specs.declared.error.ReadError.TheVariants as read
use Rattle.picky_key_text.specs.declared.form.Form.{Form}
use Rattle.picky_key_text.specs.declared.form.Form.TheVariants as forms
use Rattle.picky_key_text.specs.declared.meaning.Meaning.{Meaning}
use Rattle.picky_target.specs.Drafts.{default_rounds}
use Rattle.picky_target.specs.Judged.{carries_comment}
use Rattle.picky_target.specs.declared.error.ConvertError.{ConvertError}
use Rattle.picky_target.specs.declared.error.ConvertError.TheVariants as errors
use Rattle.picky_target.specs.declared.target.KeyTarget.TheVariants as targets

-- ---- refusals: what the text is refused for, and what is written of it

abbrev pub of_private : SshPrivateKeyError → ConvertError
of_private e = errors.Input (read.Private e)

abbrev pub of_putty : PuttyError → ConvertError
of_putty e = errors.Input (read.Putty e)

abbrev pub of_line : SshPublicKeyError → ConvertError
of_line e = errors.Input (read.Public e)

abbrev pub private_refusal : SshPrivateKeyError → ConvertError
private_refusal private.NoMemory = errors.NoMemory
private_refusal private.TooLong = errors.TooLong
private_refusal e = errors.Private e

abbrev pub putty_refusal : PuttyError → ConvertError
putty_refusal putty.NoMemory = errors.NoMemory
putty_refusal putty.TooLong = errors.TooLong
putty_refusal putty.TooManyLines = errors.TooManyLines
putty_refusal e = errors.Putty e

abbrev pub line_refusal : SshPublicKeyError → ConvertError
line_refusal public.TooLong = errors.TooLong
line_refusal e = errors.NoMemory

-- ---- each form, whose text carries the comments that the target of this form does

-- OpenSSH's private key: its check number stays, too
abbrev pub key_commented : Meanings → List ℕ → SshPrivateKey → Result (List ℕ) ConvertError
key_commented m comment key =
    if carries_comment (targets.OpenSsh default_rounds) comment
    then (if is_short comment then map_err private_refusal (key_text m (record key { comment = comment })) else Err errors.TooLong)
    else Err errors.CommentNotCarried

-- PuTTY's private key file, in its version: its private bytes stay as they are spelled
abbrev pub file_commented : Meanings → List ℕ → PpkFile → Result (List ℕ) ConvertError
file_commented m comment f =
    if carries_comment (targets.Ppk (version_of f.sealing) default_config Number) comment
    then and_then (map_err putty_refusal (commented m comment f)) (λ g. map_err putty_refusal (file_spelled g))
    else Err errors.CommentNotCarried

-- PuTTY's public key: its blob stays
abbrev pub putty_key_commented : List ℕ → PuttyPublicKey → Result (List ℕ) ConvertError
putty_key_commented comment key =
    if carries_comment targets.PuttyPublic comment
    then and_then (map_err putty_refusal (putty_commented key comment)) (λ k. map_err putty_refusal (putty_text k))
    else Err errors.CommentNotCarried

-- a public key line
abbrev pub line_commented : List ℕ → SshPublicKey → Result (List ℕ) ConvertError
line_commented comment key =
    if carries_comment targets.OpenSshPublic comment
    then (if is_short comment then map_err line_refusal (line_text (record key { comment = comment })) else Err errors.TooLong)
    else Err errors.CommentNotCarried

-- a certificate's line isn't written anew, since its signature is of its bytes as they stand
abbrev pub not_commented : Meaning → Result (List ℕ) ConvertError
not_commented meaning = Err errors.CommentNotCarried

abbrev pub commented_as : Form → Meanings → (comment text : List ℕ) → Result (List ℕ) ConvertError
commented_as forms.Envelope m comment text =
    and_then (map_err of_private (text_key m None text)) (key_commented m comment)
commented_as forms.Ppk m comment text =
    and_then (map_err of_putty (ppk_meaning m text)) (λ f.
    and_then (map_err of_putty (base_key_of f)) (λ key. file_commented m comment f))
commented_as forms.PuttyPublic m comment text =
    and_then (map_err of_putty (putty_meaning text)) (λ k.
    and_then (map_err of_putty (putty_to_openssh k)) (λ key. putty_key_commented comment k))
commented_as forms.Certificate m comment text =
    and_then (map_err errors.Input (reading (record { meanings = m; pass = None }) text)) not_commented
commented_as forms.PublicLine m comment text =
    and_then (map_err of_line (line_meaning text)) (line_commented comment)

-- the text with the comment, or the first reason why there is none
unfoldable pub commented_text : Meanings → (comment text : List ℕ) → Result (List ℕ) ConvertError
commented_text m comment text = commented_as (form_of text) m comment text

-- without a passphrase what is written means the same key as the text, with this comment
pub record IsCommented (m : Meanings) (comment text written : List ℕ) : Type 0 where
  pub meaning : Meaning
  pub before : reading (record { meanings = m; pass = None }) text ≡ Ok meaning
  pub after : reading (record { meanings = m; pass = None }) written ≡ Ok (record meaning { comment = comment })
