-- What is left has the same bytes after its zeros.
use Rattle.std.proofs.Common.{◌≡◌, length}
use Rattle.picky_wire_base.specs.Zeros.{without_zeros}
use Rattle.picky_target.proofs.file.after_zeros.Given as goal

abbrev pub invariant-zeros : goal.invariant-zeros
invariant-zeros l = without_zeros l.rest ≡ without_zeros l.bytes

abbrev pub decreases-zeros : goal.decreases-zeros
decreases-zeros l = length l.rest
