-- One of the names that are left is among those wanted, or none is.
use Rattle.std.proofs.Common.{◌≡◌, length}
use Rattle.std.specs.List.{list_any}
use denote.Text.{Utf8}
use denote.Shadow.{shadow}
use Rattle.picky_policy.specs.Rules.{is_among, names_in}
use Rattle.picky_policy.proofs.rules.has_name_among.Given as goal

abbrev pub invariant-names : goal.invariant-names
invariant-names l =
    shadow (Utf8 l.rest)
    × (list_any (λ name. is_among name l.fn.names) (names_in l.rest)
    ≡ list_any (λ name. is_among name l.fn.names) (names_in l.value))

abbrev pub decreases-names : goal.decreases-names
decreases-names l = length l.rest
