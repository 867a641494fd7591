use Rattle.std.proofs.Common.{◌≡◌, ◌≤◌, length}
use Rattle.picky_sshkey_blob.specs.Pem.{packed}
use Rattle.picky_sshkey_blob.proofs.pem.without_blanks.Given as goal

abbrev pub invariant-blanks : goal.invariant-blanks
invariant-blanks l = (packed l.rest ≡ packed l.bytes) × (length l.rest ≤ length l.bytes)

abbrev pub decreases-blanks : goal.decreases-blanks
decreases-blanks l = length l.rest
