-- Each row that was written, and where the writing failed.
use Rattle.std.proofs.Common.{List, ℕ, ◌++◌, ◌∙◌, refl, ap, subst, sym, arith, ◌≤◌, length}
use Rattle.std.proofs.Common.{string_bytes}
use Rattle.std.specs.Str.{IsAscii, IsUtf8}
use Rattle.std.proofs.lemmas.Str.{IsAscii-drop, IsUtf8-drop, IsCharBoundary-from_ascii}
use Rattle.picky_text.specs.Lines.{text_of, end_bytes}
use Rattle.picky_text.specs.Rows.{rows_of}
use Rattle.picky_text.proofs.FrontLemmas.{writing_more, writing_stays, writing_failed, writing_ends}
use Rattle.picky_text.proofs.RowLemmas.{text_of_first_row, text_of_no_row, some_left, none_left}
use Rattle.picky_text.proofs.rows.push_rows.Goals as goal

pub returns-in_err-push_str-clause-err : goal.returns-in_err-push_str-clause-err
returns-in_err-push_str-clause-err c =
    writing_failed _ (writing_stays _ c.rows.invariant.2 c.in_err-push_str.ensures.bytes)

pub returns-in_err-push_str-2-clause-err : goal.returns-in_err-push_str-2-clause-err
returns-in_err-push_str-2-clause-err c =
    let row : List ℕ = c.split_at.result.0.now in
    let rest : List ℕ = text_of c.args.end (rows_of c.split_at.result.1.now) in
    let left = text_of_first_row c.args.end c.rows.rest.now row c.split_at.result.1.now _
    (some_left _ c.rows-test.ensures) c.min.ensures c.split_at.ensures.front
    c.split_at.ensures.back in
    let after_row = writing_more row (end_bytes c.args.end ++ rest) _ c.rows.invariant.2 left
    c.in_ok-push_str.ensures.bytes in
    writing_failed _ (writing_stays _ after_row c.in_err-push_str-2.ensures.bytes)

pub rows-preserved : goal.rows-preserved
rows-preserved c =
    let row : List ℕ = c.split_at.result.0.now in
    let rest : List ℕ = text_of c.args.end (rows_of c.split_at.result.1.now) in
    let left = text_of_first_row c.args.end c.rows.rest.now row c.split_at.result.1.now _
    (some_left _ c.rows-test.ensures) c.min.ensures c.split_at.ensures.front
    c.split_at.ensures.back in
    let after_row = writing_more row (end_bytes c.args.end ++ rest) _ c.rows.invariant.2 left
    c.in_ok-push_str.ensures.bytes in
    let Ascii : List ℕ → Type 0 = IsAscii in
    let Text : List ℕ → Type 0 = IsUtf8 in
    let within : c.min.result ≤ length c.rows.rest.now = omega (arith, c.min.ensures) in
    let boundary = IsCharBoundary-from_ascii c.rows.rest.now c.min.result c.rows.invariant.1 within
    in
    let end = c.in_ok-push_str-2.ensures.bytes
    ∙ ap (λ l. string_bytes c.push_str.new.self ++ l) c.as_str.ensures in (
      subst Text (sym c.split_at.ensures.back) (IsUtf8-drop c.rows.rest.now c.min.result
          c.rows.invariant.0 boundary),
      subst Ascii (sym c.split_at.ensures.back) (IsAscii-drop c.rows.rest.now _ c.rows.invariant.1),
      writing_more (end_bytes c.args.end) rest _ after_row refl end,
    )

pub returns-clause-ok : goal.returns-clause-ok
returns-clause-ok c =
    let empty = none_left _ c.rows-test.ensures in
    let none = ap (λ l. text_of c.args.end (rows_of l)) empty ∙ text_of_no_row c.args.end in
    writing_ends (rw none at c.rows.invariant.2)
