-- The lines so far gave these entries, and those that are left give the rest.
use Rattle.std.proofs.Common.{◌≡◌, ◌+◌, ◌≤◌, [], length}
use denote.Text.{Utf8}
use denote.Shadow.{shadow}
use Rattle.picky_issuing.specs.Parts.{lines_with_ends}
use Rattle.picky_ledger.specs.LedgerText.{entries_from}
use Rattle.picky_ledger.specs.inner.Ids.{HasIds}
use Rattle.picky_ledger.proofs.reading.entries_of.Given as goal

abbrev pub invariant-lines : goal.invariant-lines
invariant-lines l = record {
  text : shadow (Utf8 l.rest);
  reads : entries_from l.next 2 [] (lines_with_ends l.text) ≡ entries_from l.next l.number l.entries (lines_with_ends l.rest);
  ids : HasIds l.ids l.entries;
  shorter : length l.rest ≤ length l.text;
  room : l.number + length l.rest ≤ 2 + length l.text;
}

abbrev pub decreases-lines : goal.decreases-lines
decreases-lines l = length l.rest
