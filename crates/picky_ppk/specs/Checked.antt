-- What a PuTTY private key file's text means under a suite: its lines, and where it isn't sealed its MAC.
use Rattle.std.specs.Prelude.{List, ℕ, Result, Ok, Err, if◌then◌else◌}
use Rattle.std.specs.Str.{bytes_eq}
use Rattle.picky_wire_base.specs.Outcome.{and_then}
use Rattle.picky_suite.specs.Meanings.{Meanings}
use Rattle.picky_ppk_parts.specs.declared.error.PuttyError.{PuttyError}
use Rattle.picky_ppk_parts.specs.declared.error.PuttyError.TheVariants as errors
use Rattle.picky_ppk_file.specs.declared.file.PpkFile.{PpkFile}
use Rattle.picky_ppk_file.specs.File.{is_sealed}
use Rattle.picky_ppk_file.specs.FileRefusal.{file_meaning}
use Rattle.picky_ppk.specs.Mac.{own_mac}

-- the file, where it is sealed, or carries its own MAC
unfoldable pub checked : Meanings → PpkFile → Result PpkFile PuttyError
checked m f =
    if is_sealed f.sealing then Ok f
    else if bytes_eq (own_mac m f) f.mac then Ok f else Err errors.MacValidation

-- the file of a text, or the first reason why there is none
unfoldable pub ppk_meaning : Meanings → List ℕ → Result PpkFile PuttyError
ppk_meaning m text = and_then (file_meaning text) (checked m)
