-- The text so far is the first line and the lines of the entries so far.
use Rattle.std.proofs.Common.{◌≡◌, ◌++◌, flat_map, string_bytes, take}
use Rattle.picky_ledger.specs.Entry.{entry_line}
use Rattle.picky_ledger.specs.LedgerText.{next_line}
use Rattle.picky_ledger.proofs.ledger.Ledger.text.Given as goal

abbrev pub invariant-entries : goal.invariant-entries
invariant-entries l = string_bytes l.text ≡ next_line l.self.next ++ flat_map entry_line (take l.entry-index l.entry-items)
