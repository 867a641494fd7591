-- The blocks before the place are opened, and those from it on are to be, chained with the last sealed one.
use Rattle.std.proofs.Common.{◌≡◌, ◌-◌, ◌*◌, ◌/◌, ◌++◌, length, take, drop}
use Rattle.picky_suite.specs.Toy.{open_blocks}
use Rattle.picky_suite.proofs.toy.open_text.Given as goal

abbrev pub invariant-loop-i : goal.invariant-loop-i
invariant-loop-i l =
    take (l.i * 16) l.text ++ open_blocks (length l.initial.text / 16 - l.i) l.key l.before (drop (l.i * 16) l.text)
    ≡ open_blocks (length l.initial.text / 16) l.key l.initial.before l.initial.text
