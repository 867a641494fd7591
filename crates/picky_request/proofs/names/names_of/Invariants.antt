-- The names so far, and those that are left.
use Rattle.std.proofs.Common.{◌≡◌, length}
use Rattle.std.specs.List.{slice_split}
use denote.Text.{Utf8}
use denote.Shadow.{shadow}
use Rattle.picky_request.specs.Names.{if_full, is_comma}
use Rattle.picky_request.proofs.NameLaws.{onto}
use Rattle.picky_request.proofs.names.names_of.Given as goal

abbrev pub invariant-names : goal.invariant-names
invariant-names l =
    shadow (Utf8 l.rest)
    × (onto l.names (if_full (slice_split is_comma l.rest)) ≡ if_full (slice_split is_comma l.text))

abbrev pub decreases-names : goal.decreases-names
decreases-names l = length l.rest
