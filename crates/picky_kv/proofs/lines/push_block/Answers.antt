-- The line of the count and the rows make the block; where one isn't written whole, there is a front of it.
use Rattle.std.proofs.Common.{◌≡◌, List, [], ◌∷◌, ℕ, ◌++◌, ◌∙◌, take, drop, sym, ap}
use Rattle.std.proofs.lemmas.List.{append_assoc, take-append-drop}
use Rattle.picky_text.specs.Lines.{text_of}
use Rattle.picky_text.specs.Rows.{rows_of}
use Rattle.picky_text.proofs.FrontLemmas.{front_is_written}
use Rattle.picky_kv.specs.Output.{pair_line, block_lines}
use Rattle.picky_kv.proofs.WriteLemmas.{text_of_one_more}
use Rattle.picky_kv.proofs.lines.push_block.Goals as goal

pub returns-clause-ok : goal.returns-clause-ok
returns-clause-ok c =
    rw (
      c.in_ok-push_rows.ensures.ok,
      c.in_ok-push_line.ensures.ok,
      c.as_str.ensures.value,
      c.in_ok-count.ensures.ok,
      c.line_count.ensures,
    ) (text_of_one_more _ _ _ _)

pub returns-in_err-push_line-clause-err : goal.returns-in_err-push_line-clause-err
returns-in_err-push_line-clause-err c =
    let front = c.in_err-push_line.ensures.err in
    let line : List ℕ = text_of c.args.end (pair_line c.args.key.now c.as_str.result.now ∷ []) in
    let rows : List ℕ = text_of c.args.end (rows_of c.args.text.now) in
    let whole : line ++ rows ≡ text_of c.args.end (block_lines c.args.key.now c.args.text.now) =
    rw (c.as_str.ensures.value, c.in_ok-count.ensures.ok, c.line_count.ensures) (text_of_one_more [] c.args.end _ _) in
    front_is_written _ _ (take front.0 line) (drop front.0 line ++ rows) front.1
    (sym whole ∙ ap (λ l. l ++ rows) (sym (take-append-drop front.0 line)) ∙ append_assoc (take front.0 line) _ rows)

pub returns-in_err-push_rows-clause-err : goal.returns-in_err-push_rows-clause-err
returns-in_err-push_rows-clause-err c =
    let front = c.in_err-push_rows.ensures.err in
    let line : List ℕ = text_of c.args.end (pair_line c.args.key.now c.as_str.result.now ∷ []) in
    let rows : List ℕ = text_of c.args.end (rows_of c.args.text.now) in
    let whole : line ++ rows ≡ text_of c.args.end (block_lines c.args.key.now c.args.text.now) =
    rw (c.as_str.ensures.value, c.in_ok-count.ensures.ok, c.line_count.ensures) (text_of_one_more [] c.args.end _ _) in
    front_is_written _ _ (line ++ take front.0 rows) (drop front.0 rows)
    (front.1 ∙ ap (λ l. l ++ take front.0 rows) c.in_ok-push_line.ensures.ok ∙ append_assoc _ line (take front.0 rows))
    (sym whole ∙ ap (λ r. line ++ r) (sym (take-append-drop front.0 rows)) ∙ sym (append_assoc line (take front.0 rows) _))
