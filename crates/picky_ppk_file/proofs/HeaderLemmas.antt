-- What a text says by its first line.
use Rattle.std.proofs.Common.{◌≡◌, ℕ, List, ◌∷◌, true, false, Err, sym, ap, ◌∙◌}
use Rattle.std.specs.Str.{bytes_eq}
use Rattle.picky_text.specs.Lines.{lines}
use Rattle.picky_ppk_file.specs.PuttyPublic.{putty_header}
use Rattle.picky_ppk_file.specs.PuttyRefusal.{after_putty_header, of_lines, putty_meaning}
use Rattle.picky_ppk_file.proofs.MeaningLaws.{header_first, other_first}
use Rattle.picky_ppk_parts.specs.declared.error.PuttyError.TheVariants as errors

-- a text that begins with a header
pub header_read : (text line : List ℕ) (more ls : List (List ℕ)) → ls ≡ lines text → ls ≡ line ∷ more
    → bytes_eq line putty_header ≡ true → putty_meaning text ≡ after_putty_header more
unfolding putty_meaning
header_read text line more ls all is same = ap of_lines (sym all ∙ is) ∙ header_first line more same

-- one that begins with another line
pub other_read : (text line : List ℕ) (more ls : List (List ℕ)) → ls ≡ lines text → ls ≡ line ∷ more
    → bytes_eq line putty_header ≡ false → putty_meaning text ≡ Err errors.InvalidPublicKeyContainer
unfolding putty_meaning
other_read text line more ls all is other = ap of_lines (sym all ∙ is) ∙ other_first line more other
