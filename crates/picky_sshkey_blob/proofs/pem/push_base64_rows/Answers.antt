-- Each row that was written.
use Rattle.std.proofs.Common.{◌∙◌, ap}
use Rattle.picky_text.specs.Base64.{base64_of}
use Rattle.picky_text.specs.Lines.{text_of}
use Rattle.picky_text.specs.Rows.{rows_of}
use Rattle.picky_text.specs.declared.lines.LineEnd.TheVariants.{Lf}
use Rattle.picky_text.proofs.RowLemmas.{some_left, none_left}
use Rattle.std.proofs.lemmas.List.{append-nil}
use Rattle.picky_sshkey_blob.proofs.RowLemmas.{rows_go_on, rows_of_nothing}
use Rattle.picky_sshkey_blob.proofs.pem.push_base64_rows.Goals as goal

pub rows-preserved : goal.rows-preserved
unfolding base64_of
rows-preserved c =
    rows_go_on _ _ _ c.rows.rest.now c.split_at.result.0.now c.split_at.result.1.now _ _
    (some_left _ c.rows-test.ensures) c.min.ensures c.split_at.ensures.front c.split_at.ensures.back
    c.in_ok-encode_string.ensures.ok c.in_ok-push_str.ensures.bytes c.rows.invariant

pub returns : goal.returns
returns c =
    let empty = none_left _ c.rows-test.ensures in
    let none = ap (λ l. text_of Lf (rows_of (base64_of l))) empty ∙ rows_of_nothing in
    rw (none, append-nil) at c.rows.invariant
