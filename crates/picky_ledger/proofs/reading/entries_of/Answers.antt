-- A line more, a bad one, and the end.
use Rattle.std.proofs.Common.{◌≡◌, ◌∙◌, ◌+◌, ◌++◌, ◌∷◌, ◌≢◌, ℕ, List, []}
use Rattle.std.proofs.Common.{None, Some, IfSome, ap, arith, inr, length, rules, subst, sym}
use Rattle.std.proofs.lemmas.Bool.{eqb-false}
use Rattle.std.proofs.lemmas.List.{length-append}
use Rattle.std.proofs.lemmas.Str.Pattern.{split_parts}
use Rattle.picky_text.proofs.UnquoteLemmas.{none_from_places}
use Rattle.picky_wire_base.specs.Outcome.{map_err}
use Rattle.picky_ledger.specs.declared.entry.Entry.{Entry}
use Rattle.picky_ledger.specs.declared.ledger.LedgerTextError.TheVariants as errors
use Rattle.picky_ledger.specs.LedgerText.{entry_said}
use Rattle.picky_ledger.specs.inner.Ids.{HasIds}
use Rattle.picky_ledger.proofs.LedgerTextLemmas.{bad_end, bad_entry, good_entry}
use Rattle.picky_ledger.proofs.reading.entries_of.Goals as goal

pub returns-in-Ok-None : goal.returns-in-Ok-None
returns-in-Ok-None c =
    let rest : List ℕ = c.lines.rest.now in
    let line : List ℕ = c.in-Some.line.now in
    let es : List Entry = c.lines.entries in
    let parts = split_parts 10 rest (Some (c.in-Some.line, c.in-Some.after)) c.in-Some.ensures.cases (omega arith) in
    let before : c.as_slice.result.now ≡ es = c.as_slice.ensures in
    let says : entry_said c.args.next es line ≡ None =
    ap (λ b. entry_said c.args.next b line) (sym before) ∙ sym c.in-Ok-None.ensures.entry ∙ c.in-Ok-None.field-0-is in
    inr (ap (map_err errors.BadLine) (c.lines.invariant.reads
    ∙ bad_entry c.args.next c.lines.number es rest line c.in-Some.after.now parts.0 (none_from_places 10 line parts.1) says))

pub lines-preserved : goal.lines-preserved
lines-preserved c =
    let rest : List ℕ = c.lines.rest.now in
    let line : List ℕ = c.in-Some.line.now in
    let after : List ℕ = c.in-Some.after.now in
    let es : List Entry = c.lines.entries in
    let e : Entry = c.in-Ok-Some.entry in
    let parts = split_parts 10 rest (Some (c.in-Some.line, c.in-Some.after)) c.in-Some.ensures.cases (omega arith) in
    let len : length rest ≡ length line + length (10 ∷ after) = ap length parts.0 ∙ length-append line (10 ∷ after) in
    let before : c.as_slice.result.now ≡ es = c.as_slice.ensures in
    let says : entry_said c.args.next es line ≡ Some e =
    ap (λ b. entry_said c.args.next b line) (sym before) ∙ sym c.in-Ok-Some.ensures.entry ∙ c.in-Ok-Some.field-0-is in
    let pushed : c.push.new.self ≡ es ++ e ∷ [] = c.in-Ok.ensures.ok in
    let ids : HasIds c.entry_after.new.ids (c.as_slice.result.now ++ e ∷ []) =
    subst (λ o. IfSome o (λ x. HasIds c.entry_after.new.ids (c.as_slice.result.now ++ x ∷ []))) c.in-Ok-Some.field-0-is
    c.in-Ok-Some.ensures.ids in
    record {
      text = search rules;
      reads =
          c.lines.invariant.reads
          ∙ good_entry c.args.next c.lines.number es c.push.new.self rest line after e parts.0 (none_from_places 10 line parts.1)
          says pushed;
      ids = subst (HasIds c.entry_after.new.ids) (ap (λ b. b ++ e ∷ []) before ∙ sym pushed) ids;
      shorter = omega (arith, len, c.lines.invariant.shorter);
      room = omega (arith, len, c.lines.invariant.room);
    }

pub returns : goal.returns
returns c =
    let rest : List ℕ = c.lines.rest.now in
    let none = none_from_places 10 rest (split_parts 10 rest None c.in_default.ensures.cases (omega arith)) in
    let some : length rest ≢ 0 = eqb-false (length rest) 0 (sym c.is_empty.ensures ∙ c.if-is_empty.false) in
    inr (ap (map_err errors.BadLine) (c.lines.invariant.reads
    ∙ bad_end c.args.next c.lines.number c.lines.entries rest none some))
