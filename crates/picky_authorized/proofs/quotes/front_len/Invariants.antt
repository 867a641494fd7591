-- The front has the bytes so far, and the front of what is left.
use Rattle.std.proofs.Common.{◌≡◌, ◌+◌, length}
use Rattle.picky_authorized.specs.Quotes.{ends_at, front_from, front_outside}
use Rattle.picky_authorized.proofs.quotes.front_len.Given as goal

abbrev pub invariant-bytes : goal.invariant-bytes
invariant-bytes l =
    length (front_outside (ends_at l.end) l.bytes) + length l.rest
    ≡ length l.bytes + length (front_from (ends_at l.end) l.quoted l.before l.rest)

abbrev pub decreases-bytes : goal.decreases-bytes
decreases-bytes l = length l.rest
