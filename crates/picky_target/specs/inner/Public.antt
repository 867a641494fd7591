-- What is written of a public key, or the first reason why nothing is: the two public targets, by their own conditions.
use Rattle.std.specs.Prelude.{◌&&◌, List, ℕ, Result, Ok, Err, if◌then◌else◌}
use Rattle.picky_wire_base.specs.Outcome.{and_then, map_err}
use Rattle.picky_keys.specs.declared.key.SshPublicKey.{SshPublicKey}
use Rattle.picky_keys.specs.Blob.{blob_of}
use Rattle.picky_keys.specs.Line.{line_of}
use Rattle.picky_keys.specs.LineRefusal.{is_short}
use Rattle.picky_ppk_parts.specs.declared.error.PuttyError.{PuttyError}
use Rattle.picky_ppk_parts.specs.declared.error.PuttyError.TheVariants as putty
use Rattle.picky_ppk_parts.specs.Unsupported.{no_security_keys}
use Rattle.picky_ppk_file.specs.PuttyPublic.{putty_public}
use Rattle.picky_ppk_file.specs.PuttyRefusal.{is_security_key, putty_of_openssh, putty_text}
use Rattle.picky_target.specs.declared.error.ConvertError.{ConvertError}
use Rattle.picky_target.specs.declared.error.ConvertError.TheVariants as errors
use Rattle.picky_target.specs.declared.target.KeyTarget.TheVariants as targets
use Rattle.picky_target.specs.Judged.{carries_comment}

abbrev pub line_written : SshPublicKey → Result (List ℕ) ConvertError
line_written key =
    if carries_comment targets.OpenSshPublic key.comment
    then (if is_short (line_of key) then Ok (line_of key) else Err errors.TooLong)
    else Err errors.CommentNotCarried

abbrev pub putty_written : SshPublicKey → Result (List ℕ) ConvertError
putty_written key =
    if is_security_key key.inner_key then Err (errors.Putty no_security_keys)
    else if carries_comment targets.PuttyPublic key.comment
    then (if is_short (blob_of key.inner_key) && is_short (putty_public (blob_of key.inner_key) key.comment)
    then Ok (putty_public (blob_of key.inner_key) key.comment) else Err errors.TooLong)
    else Err errors.CommentNotCarried

-- a refusal of PuTTY's key or file as the conversion's: what is too long, or has too many lines, is the text
abbrev pub putty_output_refusal : PuttyError → ConvertError
putty_output_refusal putty.NoMemory = errors.NoMemory
putty_output_refusal putty.TooLong = errors.TooLong
putty_output_refusal putty.TooManyLines = errors.TooManyLines
putty_output_refusal e = errors.Putty e

-- the text of PuTTY's key for an OpenSSH one
abbrev pub text_of_putty : SshPublicKey → Result (List ℕ) ConvertError
text_of_putty key = map_err putty_output_refusal (and_then (putty_of_openssh key) putty_text)
