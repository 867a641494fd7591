-- The option stands among those that are left, or nowhere.
use Rattle.std.proofs.Common.{◌≡◌, length}
use Rattle.picky_policy.specs.Decided.{is_authority}
use Rattle.picky_policy.proofs.key_line.is_authority.Given as goal

abbrev pub invariant-options : goal.invariant-options
invariant-options l = is_authority l.rest ≡ is_authority l.options

abbrev pub decreases-options : goal.decreases-options
decreases-options l = length l.rest
