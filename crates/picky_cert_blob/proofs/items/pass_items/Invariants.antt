-- The items passed so far, and then those of the rest, are all.
use Rattle.std.proofs.Common.{length, ◌-◌}
use Rattle.picky_cert_blob.proofs.RowLemmas.{Passing}
use Rattle.picky_cert_blob.proofs.items.pass_items.Given as goal

abbrev pub invariant-items : goal.invariant-items
invariant-items g l = Passing g.I.Item.item l.bytes l.fn.from l.at

abbrev pub decreases-items : goal.decreases-items
decreases-items g l = length l.bytes - l.at
