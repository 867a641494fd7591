-- The entries taken so far, and then those of the rest, are all.
use Rattle.std.proofs.Common.{◌≡◌, length}
use Rattle.picky_wire_base.specs.Row.{read_all}
use Rattle.picky_wire_base.proofs.Steps.{following}
use Rattle.picky_ask.specs.Table.{entry}
use Rattle.picky_ask.proofs.table.entries_of.Given as goal

abbrev pub invariant-entries : goal.invariant-entries
invariant-entries l = following l.entries.items (read_all entry l.rest) ≡ read_all entry l.bytes

abbrev pub decreases-entries : goal.decreases-entries
decreases-entries l = length l.rest
