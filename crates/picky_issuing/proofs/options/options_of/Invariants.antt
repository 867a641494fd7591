-- The words that are left, with what is asked for so far, ask for what all of the words do.
use Rattle.std.proofs.Common.{◌≡◌, length}
use Rattle.picky_issuing.specs.Options.{options_named, with_options}
use Rattle.picky_issuing.proofs.options.options_of.Given as goal

abbrev pub invariant-words : goal.invariant-words
invariant-words l = with_options l.rest l.options ≡ options_named l.words

abbrev pub decreases-words : goal.decreases-words
decreases-words l = length l.rest
