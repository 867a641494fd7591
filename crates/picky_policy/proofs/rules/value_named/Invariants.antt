-- The value is that of the options which are left.
use Rattle.std.proofs.Common.{◌≡◌, length}
use Rattle.picky_policy.specs.Rules.{value_named}
use Rattle.picky_policy.proofs.rules.value_named.Given as goal

abbrev pub invariant-options : goal.invariant-options
invariant-options l = value_named l.name l.rest ≡ value_named l.name l.options

abbrev pub decreases-options : goal.decreases-options
decreases-options l = length l.rest
