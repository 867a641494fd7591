-- A line up to its LF, or the last, which has none.
use Rattle.std.proofs.Common.{◌≢◌, ◌∙◌, ◌∷◌, ℕ, List, None, Some, ap, arith, length, sym}
use Rattle.std.proofs.lemmas.Bool.{eqb-false}
use Rattle.std.proofs.lemmas.Str.Pattern.{split_parts}
use Rattle.picky_text.proofs.UnquoteLemmas.{none_from_places}
use Rattle.picky_issuing.specs.Parts.{lines_with_ends}
use Rattle.picky_inventory.proofs.EndedLaws.{first_alone, first_ended}
use Rattle.picky_inventory.proofs.ended.first_line.Goals as goal

pub returns-in-Some-clause-line : goal.returns-in-Some-clause-line
returns-in-Some-clause-line c =
    let text : List ℕ = c.args.text.now in
    let line : List ℕ = c.in-Some.field-0-0.now in
    let after : List ℕ = c.in-Some.after.now in
    let parts = split_parts 10 text (Some (c.in-Some.field-0-0, c.in-Some.after)) c.in-Some.ensures.cases (omega arith) in
    first_ended text line after parts.0 (none_from_places 10 line parts.1)
    ∙ ap (λ l. l ∷ lines_with_ends after) (sym c.split_at.ensures.front)

pub returns-else-is_empty-clause-line : goal.returns-else-is_empty-clause-line
returns-else-is_empty-clause-line c =
    let text : List ℕ = c.args.text.now in
    let none = none_from_places 10 text (split_parts 10 text None c.in-None.ensures.cases (omega arith)) in
    let other : length text ≢ 0 = eqb-false (length text) 0 (sym c.is_empty.ensures ∙ c.if-is_empty.false) in
    first_alone text (omega (arith, other)) none
