-- The entry of a line, by its serial and by whether its id was added.
use Rattle.std.proofs.Common.{◌≡◌, ◌∙◌, Bool, None, Some, ap, if◌then◌else◌, sym}
use Rattle.picky_ledger.specs.declared.entry.Entry.{Entry}
use Rattle.picky_ledger.specs.Entry.{entry_in}
use Rattle.picky_ledger.proofs.EntryLineLemmas.{said_id}
use Rattle.picky_ledger.proofs.IdLemmas.{ids_more, said_where_added}
use Rattle.picky_ledger.proofs.reading.entry_after.Goals as goal

pub returns-in-Ok-true-clause-entry : goal.returns-in-Ok-true-clause-entry
returns-in-Ok-true-clause-entry c =
    let e : Entry = c.in-Some.entry in
    let says : entry_in c.args.line.now ≡ Some e = sym c.in_ok-entry.ensures ∙ c.in-Some.is in
    sym (said_where_added c.args.next c.args.before.now c.args.line.now e c.args.ids.now c.id_of.result c.in-Ok-true.field-0 says
    (sym c.is_between.ensures ∙ c.if-not-is_between.false) c.requires.ids c.id_of.ensures c.in-Ok-true.ensures.added
    ∙ ap (λ (b : Bool). if b then Some e else None) c.in-Ok-true.field-0-test)

pub returns-in-Ok-true-clause-ids : goal.returns-in-Ok-true-clause-ids
returns-in-Ok-true-clause-ids c =
    let e : Entry = c.in-Some.entry in
    let says : entry_in c.args.line.now ≡ Some e = sym c.in_ok-entry.ensures ∙ c.in-Some.is in
    ids_more c.args.ids.now c.insert.new.self c.args.before.now e c.id_of.result c.requires.ids
    (said_id c.args.line.now e says ∙ sym c.id_of.ensures) c.in-Ok-true.ensures.updates

pub returns-in-Ok-false-clause-entry : goal.returns-in-Ok-false-clause-entry
returns-in-Ok-false-clause-entry c =
    let e : Entry = c.in-Some.entry in
    let says : entry_in c.args.line.now ≡ Some e = sym c.in_ok-entry.ensures ∙ c.in-Some.is in
    sym (said_where_added c.args.next c.args.before.now c.args.line.now e c.args.ids.now c.id_of.result c.in-Ok-false.field-0 says
    (sym c.is_between.ensures ∙ c.if-not-is_between.false) c.requires.ids c.id_of.ensures c.in-Ok-false.ensures.added
    ∙ ap (λ (b : Bool). if b then Some e else None) c.in-Ok-false.field-0-test)
