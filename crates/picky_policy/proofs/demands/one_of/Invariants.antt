-- What was found so far, with the options that are left, is the one of all.
use Rattle.std.proofs.Common.{◌≡◌, None, length}
use Rattle.std.specs.Option.{option_copied}
use Rattle.picky_policy.proofs.DemandLaws.{one_from}
use Rattle.picky_policy.proofs.demands.one_of.Given as goal

abbrev pub invariant-options : goal.invariant-options
invariant-options l = one_from l.wanted (option_copied l.found) l.rest ≡ one_from l.wanted None l.options

abbrev pub decreases-options : goal.decreases-options
decreases-options l = length l.rest
