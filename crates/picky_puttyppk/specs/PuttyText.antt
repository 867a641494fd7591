-- The text of a PuTTY private key file as PuTTY's own programs write it.
use Rattle.std.specs.Prelude.{◌≡◌, ◌++◌, ◌==◌, ◌&&◌, ◌-◌, not, Bool, List, ℕ}
use Rattle.std.specs.Prelude.{length, slice_index, Result, Ok, Err, if◌then◌else◌}
use Rattle.std.specs.List.{list_any}
use Rattle.picky_wire_base.specs.Outcome.{and_then, map_err}
use Rattle.picky_text.specs.declared.lines.LineEnd.{LineEnd}
use Rattle.picky_text.specs.declared.lines.LineEnd.TheVariants.{Lf, CrLf}
use Rattle.picky_suite.specs.Meanings.{Meanings}
use Rattle.picky_ppk_parts.specs.declared.error.PuttyError.{PuttyError}
use Rattle.picky_ppk_parts.specs.declared.error.PuttyError.TheVariants as errors
use Rattle.picky_ppk_file.specs.declared.file.PpkFile.{PpkFile}
use Rattle.picky_ppk_file.specs.File.{version_of}
use Rattle.picky_ppk_file.specs.Written.{line_end_of, file_spelled}
use Rattle.picky_ppk.specs.Checked.{ppk_meaning}
use Rattle.picky_ppk.specs.KeyOf.{base_key_of}
use Rattle.picky_ppk.specs.ForPutty.{HasPuttySecret, for_putty}
use Rattle.picky_puttyppk.specs.declared.status.PuttyPpkStatus.{PuttyPpkStatus}
use Rattle.picky_puttyppk.specs.declared.status.PuttyPpkStatus.TheVariants as statuses

-- want of memory is never hidden in a refusal
abbrev pub refusal_status : PuttyError → PuttyPpkStatus
refusal_status errors.NoMemory = statuses.NoMemory
refusal_status e = statuses.Refused e

abbrev pub has_lf : List ℕ → Bool
has_lf text = list_any (λ b. b == 10) text

abbrev pub ends_in_cr : List ℕ → Bool
ends_in_cr text = slice_index text (length text - 1) == 13

-- the text is a line before this end (`IsLine` of picky_text)
abbrev pub is_line : LineEnd → List ℕ → Bool
is_line Lf text = not (has_lf text) && not (ends_in_cr text)
is_line CrLf text = not (has_lf text)

-- the text of a file, whose comment has to be a line
unfoldable pub text_in_lines : PpkFile → Result (List ℕ) PuttyPpkStatus
text_in_lines f =
    if is_line (line_end_of (version_of f.sealing)) f.comment then map_err refusal_status (file_spelled f)
    else Err statuses.CommentNotCarried

-- the text of the file for PuTTY of a file, and of a text's file, or the first status that says why there is none
abbrev pub file_for_putty : Meanings → PpkFile → Result (List ℕ) PuttyPpkStatus
file_for_putty m file = and_then (map_err refusal_status (for_putty m file)) text_in_lines

unfoldable pub text_for_putty : Meanings → (text : List ℕ) → Result (List ℕ) PuttyPpkStatus
text_for_putty m text = and_then (map_err refusal_status (ppk_meaning m text)) (file_for_putty m)

-- the text is the one that is written of the file that is made for PuTTY, and is read as this file, whatever follows: it has the
-- same key, or none for the same reason, the same comment, the same version, and PuTTY's layout
pub record IsForPutty (m : Meanings) (file : PpkFile) (text : List ℕ) : Type 0 where
  pub made : PpkFile
  pub is_made : for_putty m file ≡ Ok made
  pub is_text : text_in_lines made ≡ Ok text
  pub is_read_back : (more : List ℕ) → ppk_meaning m (text ++ more) ≡ Ok made
  pub key : base_key_of made ≡ base_key_of file
  pub comment : made.comment ≡ file.comment
  pub version : version_of made.sealing ≡ version_of file.sealing
  pub layout : HasPuttySecret made

-- it is so for the file of these bytes
abbrev pub IsOf : Meanings → (input text : List ℕ) → Type 0
IsOf m input text = (file : PpkFile) × (ppk_meaning m input ≡ Ok file) × IsForPutty m file text
