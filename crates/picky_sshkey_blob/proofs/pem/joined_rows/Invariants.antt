use Rattle.std.proofs.Common.{◌≡◌, ◌++◌, length}
use Rattle.picky_sshkey_blob.specs.Pem.{packed}
use Rattle.picky_sshkey_blob.proofs.pem.joined_rows.Given as goal

abbrev pub invariant-rows : goal.invariant-rows
invariant-rows l = packed l.joined.items ++ packed l.rest ≡ packed l.bytes

abbrev pub decreases-rows : goal.decreases-rows
decreases-rows l = length l.rest
