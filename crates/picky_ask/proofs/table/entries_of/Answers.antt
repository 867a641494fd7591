-- The entries are read one after another.
use Rattle.std.proofs.Common.{◌∙◌, sym, ap, inl, inr, arith}
use Rattle.picky_wire_base.specs.Row.{read_all}
use Rattle.picky_wire_base.proofs.Solid.{read_shortens}
use Rattle.picky_wire_base.proofs.Steps.{following, taking_more, taking_ends, taking_refused}
use Rattle.picky_ask.specs.Table.{entry}
use Rattle.picky_ask.proofs.TableLemmas.{entry_solid}
use Rattle.picky_ask.proofs.table.entries_of.Goals as goal

pub entries-preserved : goal.entries-preserved
entries-preserved c =
    let found = c.in-Ok.found in
    ap (λ vs. following vs (read_all entry found.1.now)) c.in-Ok-push.ensures.items
    ∙ sym (taking_more entry entry_solid c.entries.entries.items c.entries.rest.now found.0 found.1.now c.entries-test.true
    c.in-Ok.ensures)
    ∙ c.entries.invariant

pub entries-smaller : goal.entries-smaller
entries-smaller c =
    read_shortens entry entry_solid c.entries.rest.now c.in-Ok.found.0 c.in-Ok.found.1.now c.in-Ok.ensures

pub returns-in-Err : goal.returns-in-Err
returns-in-Err c =
    elim c.in-Err.ensures [
      | inl want ↦ inl want
      | inr refused ↦ inr (sym c.entries.invariant
          ∙ taking_refused entry c.entries.entries.items c.entries.rest.now c.in-Err.e c.entries-test.true refused)
    ]

pub returns : goal.returns
returns c =
    sym c.entries.invariant ∙ taking_ends entry c.entries.entries.items c.entries.rest.now (omega arith)
