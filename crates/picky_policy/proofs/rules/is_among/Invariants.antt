-- The name is among those that are left, or among none.
use Rattle.std.proofs.Common.{◌≡◌, length}
use Rattle.picky_policy.specs.Rules.{is_among}
use Rattle.picky_policy.proofs.rules.is_among.Given as goal

abbrev pub invariant-names : goal.invariant-names
invariant-names l = is_among l.name l.rest ≡ is_among l.name l.names

abbrev pub decreases-names : goal.decreases-names
decreases-names l = length l.rest
