use Rattle.std.proofs.Common.{◌≡◌, ◌++◌, length, string_bytes}
use Rattle.picky_text.specs.Base64.{base64_of}
use Rattle.picky_text.specs.Lines.{text_of}
use Rattle.picky_text.specs.Rows.{rows_of}
use Rattle.picky_text.specs.declared.lines.LineEnd.TheVariants.{Lf}
use Rattle.picky_sshkey_blob.proofs.pem.push_base64_rows.Given as goal

abbrev pub invariant-rows : goal.invariant-rows
invariant-rows l =
    string_bytes l.out ++ text_of Lf (rows_of (base64_of l.rest))
    ≡ string_bytes l.fn.out ++ text_of Lf (rows_of (base64_of l.bytes))

abbrev pub decreases-rows : goal.decreases-rows
decreases-rows l = length l.rest
