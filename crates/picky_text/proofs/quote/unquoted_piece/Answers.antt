-- Where the text is cut, and what its front stands for.
use Rattle.std.proofs.Common.{◌∷◌, ◌∙◌, sym, ap, arith}
use Rattle.std.specs.List.{position_or_len}
use Rattle.picky_text.specs.inner.Quote.{is_backslash}
use Rattle.picky_text.proofs.UnquoteLemmas.{boundary_after_first, boundary_after_second, boundary_of_backslash}
use Rattle.picky_text.proofs.UnquoteLemmas.{unquote_plain_front}
use Rattle.picky_text.proofs.quote.unquoted_piece.Goals as goal

pub split_at-requires : goal.split_at-requires
split_at-requires c =
    let first = c.in-Some-eq92-default in
    let second = c.in-Some-eq34-default in
    boundary_after_second c.args.text.now second.field-0-1.now first.field-0-0.now
    second.field-0-0.now c.utf8.text
    (sym c.as_bytes.ensures.value ∙ first.ensures.cases.0
    ∙ ap (λ l. first.field-0-0.now ∷ l) second.ensures.cases.0)
    (omega (arith, second.field-0-0-test))

pub split_at-requires-in-Some-eq92-default-split_first : goal.split_at-requires-in-Some-eq92-default-split_first
split_at-requires-in-Some-eq92-default-split_first c =
    let first = c.in-Some-eq92-default in
    let second = c.in-Some-eq92-default-split_first in
    boundary_after_second c.args.text.now second.field-0-1.now first.field-0-0.now
    second.field-0-0.now c.utf8.text
    (sym c.as_bytes.ensures.value ∙ first.ensures.cases.0
    ∙ ap (λ l. first.field-0-0.now ∷ l) second.ensures.cases.0)
    (omega (arith, second.field-0-0-test))

pub split_at-requires-in-Some-split_first : goal.split_at-requires-in-Some-split_first
split_at-requires-in-Some-split_first c =
    let first = c.in-Some-eq92-default in
    boundary_after_first c.args.text.now first.after.now first.field-0-0.now c.utf8.text
    (sym c.as_bytes.ensures.value ∙ first.ensures.cases.0) (omega (arith, first.field-0-0-test))

pub split_at-requires-in-Some : goal.split_at-requires-in-Some
split_at-requires-in-Some c =
    boundary_of_backslash c.args.text.now c.unescaped_len.result
    (c.unescaped_len.ensures.place ∙ ap (position_or_len is_backslash) c.as_bytes-in-Some.ensures.value)

pub returns-in-Some-clause-parts : goal.returns-in-Some-clause-parts
returns-in-Some-clause-parts c =
    unquote_plain_front c.args.text.now _ _ c.unescaped_len.result
    (c.unescaped_len.ensures.place ∙ ap (position_or_len is_backslash) c.as_bytes-in-Some.ensures.value)
    c.split_at-in-Some.ensures.front c.split_at-in-Some.ensures.back
