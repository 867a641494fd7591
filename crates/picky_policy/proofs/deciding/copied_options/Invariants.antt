-- The copies so far, and those of the options that are left, are all.
use Rattle.std.proofs.Common.{◌≡◌, ◌++◌, length}
use Rattle.picky_policy.specs.Decided.{options_left}
use Rattle.picky_policy.proofs.deciding.copied_options.Given as goal

abbrev pub invariant-options : goal.invariant-options
invariant-options l = l.copies ++ options_left l.rest ≡ options_left l.options

abbrev pub decreases-options : goal.decreases-options
decreases-options l = length l.rest
