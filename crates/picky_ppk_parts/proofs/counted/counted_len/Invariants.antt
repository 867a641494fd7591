-- The strings that are left are read from this place on.
use Rattle.std.proofs.Common.{◌≡◌, ◌-◌, ◌≤◌, length}
use Rattle.picky_ppk_parts.specs.Counted.{counted}
use Rattle.picky_ppk_parts.proofs.CountedLemmas.{end_from}
use Rattle.picky_ppk_parts.proofs.counted.counted_len.Given as goal

abbrev pub invariant-strings : goal.invariant-strings
invariant-strings l =
    (end_from (l.end - l.counter) l.place l.private ≡ counted l.fn.algorithm l.private) × (l.place ≤ length l.private)
