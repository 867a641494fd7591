-- The hasher holds what it held before, and then the numbers before the index.
use Rattle.std.proofs.Common.{◌++◌, ℕ, List, take}
use Rattle.std.specs.Int.{w32, to_be_bytes}
use Rattle.std.specs.List.{flat_map}
use Rattle.sha2.specs.Hashers.{Holds512}
use Rattle.picky_suite.proofs.toy.put_numbers.Given as goal

abbrev pub invariant-loop-number : goal.invariant-loop-number
invariant-loop-number l = (m : List ℕ) → Holds512 l.initial.hasher m
    → Holds512 l.hasher (m ++ flat_map (to_be_bytes w32) (take l.number-index l.numbers))
