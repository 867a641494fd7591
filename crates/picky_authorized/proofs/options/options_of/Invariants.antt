-- The options so far, before those of what is left, are the text's.
use Rattle.std.proofs.Common.{◌≡◌, ◌≤◌, length}
use denote.Text.{Utf8}
use denote.Shadow.{shadow}
use Rattle.picky_authorized.specs.Options.{options_in}
use Rattle.picky_authorized.proofs.OptionLemmas.{before_options}
use Rattle.picky_authorized.proofs.options.options_of.Given as goal

abbrev pub invariant-parts : goal.invariant-parts
invariant-parts l =
    shadow (Utf8 l.rest) × (before_options l.options (options_in l.rest) ≡ options_in l.text)
    × (length l.rest ≤ length l.text)

abbrev pub decreases-parts : goal.decreases-parts
decreases-parts l = length l.rest
