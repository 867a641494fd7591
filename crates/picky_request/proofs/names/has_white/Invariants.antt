-- No character that was passed is white.
use Rattle.std.proofs.Common.{◌≡◌, false}
use Rattle.std.specs.Char.{is_whitespace}
use Rattle.std.specs.List.{list_any}
use Rattle.picky_request.proofs.names.has_white.Given as goal

abbrev pub invariant-chars : goal.invariant-chars
invariant-chars l = list_any is_whitespace l.yielded ≡ false
