-- The values taken so far, and then those of the rest, are all.
use Rattle.std.proofs.Common.{◌≡◌, length}
use Rattle.picky_wire_base.specs.Row.{read_all}
use Rattle.picky_wire_base.proofs.Steps.{following}
use Rattle.picky_wire.proofs.list_codec.decode_items.Given as goal

abbrev pub invariant-items : goal.invariant-items
invariant-items g l =
    following l.items (read_all g.T.SshLayout.layout l.rest)
    ≡ read_all g.T.SshLayout.layout l.block

abbrev pub decreases-items : goal.decreases-items
decreases-items g l = length l.rest
