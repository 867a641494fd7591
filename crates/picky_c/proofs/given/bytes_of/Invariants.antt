-- The bytes so far.
use Rattle.std.proofs.Common.{◌≡◌, map, take}
use Rattle.picky_c.specs.Given.{bytes_given}
use Rattle.picky_c.proofs.given.bytes_of.Given as goal

abbrev pub invariant-given : goal.invariant-given
invariant-given l = map (λ bytes. bytes.now) l.list.items ≡ bytes_given (take l.it-index l.given)
