-- The lines are those of the parts so far, and the suite has not failed; where no part asks, it is as it was.
use Rattle.std.proofs.Common.{◌≡◌, Ok, map, take}
use Rattle.std.specs.Option.{option_copied}
use Rattle.picky_inventory.specs.Listing.{NoneAsks, lines_from}
use Rattle.picky_inventory.proofs.listing.list_lines.Given as goal

abbrev pub invariant-parts : goal.invariant-parts
invariant-parts g l = record {
  lines : lines_from (record { meanings = g.S.Suite.meanings l.fn.suite; pass = option_copied l.pass }) 0
      (take l.i (map (λ part. part.now) l.parts)) ≡ Ok (map (λ line. line.items) l.lines.items);
  kept : g.S.Suite.meanings l.suite ≡ g.S.Suite.meanings l.fn.suite;
  calm : g.S.Suite.faults l.suite ≡ g.S.Suite.faults l.fn.suite;
  unasked : NoneAsks (option_copied l.pass) (map (λ part. part.now) l.parts) → l.suite ≡ l.fn.suite;
}
