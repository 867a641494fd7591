-- The line is that of the entries which are left.
use Rattle.std.proofs.Common.{◌≡◌, length}
use Rattle.picky_policy.specs.Decided.{line_for}
use Rattle.picky_policy.proofs.key_line.line_for.Given as goal

abbrev pub invariant-entries : goal.invariant-entries
invariant-entries l = line_for l.authority l.key l.rest ≡ line_for l.authority l.key l.entries

abbrev pub decreases-entries : goal.decreases-entries
decreases-entries l = length l.rest
