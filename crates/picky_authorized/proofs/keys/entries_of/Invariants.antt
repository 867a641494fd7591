-- The entries so far, and those of the lines that are left, are the text's.
use Rattle.std.proofs.Common.{◌≡◌, ◌+◌, ◌≤◌, ◌++◌, length}
use Rattle.std.specs.List.{AllByRecursion}
use Rattle.picky_authorized.specs.Entries.{entries_from, entries_in}
use Rattle.picky_authorized.proofs.keys.entries_of.Given as goal

abbrev pub invariant-lines : goal.invariant-lines
invariant-lines l = record {
  found : l.entries ++ entries_from l.number l.lines ≡ entries_in l.text;
  count : l.number + length l.lines ≤ length l.text + 1;
  short : AllByRecursion (λ line. length line ≤ length l.text) l.lines;
}

abbrev pub decreases-lines : goal.decreases-lines
decreases-lines l = length l.lines
