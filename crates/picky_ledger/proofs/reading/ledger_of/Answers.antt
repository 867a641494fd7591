-- The first line, and the entries behind it.
use Rattle.std.proofs.Common.{◌∙◌, ◌∷◌, ℕ, List, [], None, Some, ap, arith, inl, inr, length, subst, sym}
use Rattle.std.proofs.lemmas.List.{length-append}
use Rattle.std.proofs.lemmas.Str.Pattern.{split_parts}
use Rattle.std.specs.Str.{IsUtf8}
use Rattle.picky_text.proofs.UnquoteLemmas.{none_from_places}
use Rattle.picky_wire_base.specs.Outcome.{map_err}
use Rattle.picky_issuing.specs.Parts.{lines_with_ends}
use Rattle.picky_ledger.specs.LedgerText.{entries_from, ledger_in}
use Rattle.picky_ledger.specs.declared.ledger.LedgerTextError.TheVariants as errors
use Rattle.picky_ledger.proofs.LedgerTextLemmas.{err_of_next, next_goes_on, next_is_bad, no_line_is_bad, ok_of_mapped, with_next}
use Rattle.picky_ledger.proofs.LedgerTextLaws.{entries_make_ledger, said_next_is}
use Rattle.picky_ledger.proofs.SidesLemmas.{sides_are_text}
use Rattle.picky_ledger.proofs.reading.ledger_of.Goals as goal

pub returns-in_default : goal.returns-in_default
returns-in_default c =
    let text : List ℕ = c.args.text.now in
    inr (ap (map_err errors.BadLine) (no_line_is_bad text
    (none_from_places 10 text (split_parts 10 text None c.in_default.ensures.cases (omega arith)))))

pub returns-in_default-next_of : goal.returns-in_default-next_of
returns-in_default-next_of c =
    let line : List ℕ = c.in-Some.line.now in
    let rest : List ℕ = c.in-Some.rest.now in
    let parts = split_parts 10 c.args.text.now (Some (c.in-Some.line, c.in-Some.rest)) c.in-Some.ensures.cases (omega arith) in
    inr (ap (map_err errors.BadLine) (ap ledger_in parts.0
    ∙ next_is_bad line rest (none_from_places 10 line parts.1) (sym c.in_default-next_of.ensures)))

pub invariant_of-result : goal.invariant_of-result
invariant_of-result c =
    let line : List ℕ = c.in-Some.line.now in
    let rest : List ℕ = c.in-Some.rest.now in
    let next : ℕ = c.in-Some-next_of.next in
    let parts = split_parts 10 c.args.text.now (Some (c.in-Some.line, c.in-Some.rest)) c.in-Some.ensures.cases (omega arith) in
    let len = ap length parts.0 ∙ length-append line (10 ∷ rest) in
    let utf8 = (sides_are_text 10 line rest (omega arith) (subst IsUtf8 parts.0 c.utf8.text)).1 in
    let of_next = said_next_is line next (sym c.in-Some-next_of.ensures) in
    let says = ok_of_mapped errors.BadLine (entries_from next 2 [] (lines_with_ends rest)) c.in-Ok.entries c.in-Ok.ensures in
    (entries_make_ledger next rest c.in-Ok.entries of_next.some of_next.fits utf8 (omega (arith, len, c.requires)) says).0

pub returns-in-Ok : goal.returns-in-Ok
returns-in-Ok c =
    let line : List ℕ = c.in-Some.line.now in
    let rest : List ℕ = c.in-Some.rest.now in
    let next : ℕ = c.in-Some-next_of.next in
    let parts = split_parts 10 c.args.text.now (Some (c.in-Some.line, c.in-Some.rest)) c.in-Some.ensures.cases (omega arith) in
    let says = ok_of_mapped errors.BadLine (entries_from next 2 [] (lines_with_ends rest)) c.in-Ok.entries c.in-Ok.ensures in
    ap (map_err errors.BadLine) (ap ledger_in parts.0
    ∙ next_goes_on line rest next (none_from_places 10 line parts.1) (sym c.in-Some-next_of.ensures)
    ∙ ap (with_next next) says)

pub returns-in-Err : goal.returns-in-Err
returns-in-Err c =
    let line : List ℕ = c.in-Some.line.now in
    let rest : List ℕ = c.in-Some.rest.now in
    let next : ℕ = c.in-Some-next_of.next in
    let parts = split_parts 10 c.args.text.now (Some (c.in-Some.line, c.in-Some.rest)) c.in-Some.ensures.cases (omega arith) in
    elim c.in-Err.ensures [
      | inl want ↦ inl want
      | inr says ↦
          inr (ap (map_err errors.BadLine) (ap ledger_in parts.0
          ∙ next_goes_on line rest next (none_from_places 10 line parts.1) (sym c.in-Some-next_of.ensures))
          ∙ err_of_next errors.BadLine next (entries_from next 2 [] (lines_with_ends rest)) c.in-Err.e says)
    ]
