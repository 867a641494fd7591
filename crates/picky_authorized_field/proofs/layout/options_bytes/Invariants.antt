-- The options so far, and those that are left.
use Rattle.std.proofs.Common.{◌≡◌, ◌++◌, length}
use Rattle.picky_authorized_field.specs.Layout.{options_bytes as options_bytes_of}
use Rattle.picky_authorized_field.proofs.layout.options_bytes.Given as goal

abbrev pub invariant-options : goal.invariant-options
invariant-options l = l.bytes.items ++ options_bytes_of l.rest ≡ options_bytes_of l.fn.options

abbrev pub decreases-options : goal.decreases-options
decreases-options l = length l.rest
