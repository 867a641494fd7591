-- The bytes before the index are xored, and those from it on are the text's.
use Rattle.std.proofs.Common.{◌≡◌, ◌+◌, ◌/◌, ◌++◌, length, take, drop}
use Rattle.picky_suite.specs.Toy.{xored, masks}
use Rattle.picky_suite.proofs.toy.mask_text.Given as goal

abbrev pub invariant-loop-i : goal.invariant-loop-i
invariant-loop-i l =
    l.text ≡ xored (take l.i l.initial.text) (masks ((length l.initial.text + 15) / 16) l.mask) ++ drop l.i l.initial.text
