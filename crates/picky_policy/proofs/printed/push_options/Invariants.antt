-- The text so far, and the lines of the options that are left, are all.
use Rattle.std.proofs.Common.{◌≡◌, ◌++◌, flat_map, length, string_bytes}
use Rattle.picky_policy.specs.Printed.{option_line}
use Rattle.picky_policy.proofs.printed.push_options.Given as goal

abbrev pub invariant-options : goal.invariant-options
invariant-options l =
    string_bytes l.text ++ flat_map option_line l.rest ≡ string_bytes l.fn.text ++ flat_map option_line l.options

abbrev pub decreases-options : goal.decreases-options
decreases-options l = length l.rest
