-- A file's text is written piece by piece.
use Rattle.std.proofs.Common.{◌≡◌, ℕ, List, [], ◌++◌, sym, ap, ◌∙◌}
use Rattle.std.proofs.lemmas.List.{append_assoc, append-nil}
use Rattle.picky_text.specs.Lines.{text_of}
use Rattle.picky_text.specs.declared.lines.LineEnd.{LineEnd}
use Rattle.picky_ppk_file.proofs.TextLemmas.{text_of-append, text_of-nil}

-- Lines behind lines, behind a text.
pub lines_written : (end : LineEnd) (a b : List (List ℕ)) (t0 t1 t2 : List ℕ) → t1 ≡ t0 ++ text_of end a
    → t2 ≡ t1 ++ text_of end b → t2 ≡ t0 ++ text_of end (a ++ b)
lines_written end a b t0 t1 t2 first second =
    second ∙ ap (λ t. t ++ text_of end b) first ∙ append_assoc t0 (text_of end a) (text_of end b)
    ∙ ap (λ t. t0 ++ t) (sym (text_of-append end a b))

-- No lines behind a text.
pub nothing_written : (end : LineEnd) (t : List ℕ) → t ≡ t ++ text_of end []
nothing_written end t = sym (append-nil t) ∙ ap (λ r. t ++ r) (sym (text_of-nil end))
