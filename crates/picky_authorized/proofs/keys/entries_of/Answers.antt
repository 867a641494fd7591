-- The lines of the text, and the entries of all.
use Rattle.std.proofs.Common.{◌≤◌, ap, arith, length, subst, sym}
use Rattle.std.specs.List.{AllByRecursion}
use Rattle.picky_text.proofs.LineLaws.{each_line_within, lines_count}
use Rattle.picky_authorized.proofs.LineLemmas.{dropped_no_longer, found_fit, no_entry_yet}
use Rattle.picky_authorized.proofs.keys.entries_of.Goals as goal

pub lines-init : goal.lines-init
lines-init c = record {
  found = no_entry_yet c.new-entries.result c.new-lines.result c.args.text.now c.new-entries.ensures c.new-lines.ensures;
  count = omega (arith, ap length c.new-lines.ensures, lines_count c.args.text.now);
  short =
      subst (AllByRecursion (λ line. length line ≤ length c.args.text.now)) (sym c.new-lines.ensures)
      (each_line_within c.args.text.now);
}

pub content_of-requires : goal.content_of-requires
content_of-requires c =
    let short =
    subst (AllByRecursion (λ line. length line ≤ length c.args.text.now)) c.in-Some.ensures.line c.lines.invariant.short in
    omega (arith, c.requires, short.0, ap length c.strip_blanks.ensures, dropped_no_longer c.in-Some.line.now)

pub returns-clause-fit : goal.returns-clause-fit
returns-clause-fit c =
    found_fit c.lines.entries c.lines.number c.lines.lines c.args.text.now c.lines.invariant.found c.in_default.ensures.none.0
