-- What was passed by has the text on neither side.
use Rattle.std.proofs.Common.{◌≡◌, drop}
use Rattle.picky_ask.specs.Lookup.{first_side}
use Rattle.picky_ask.proofs.lookup.is_other.Given as goal

abbrev pub invariant-loop-entry : goal.invariant-loop-entry
invariant-loop-entry l = first_side l.mode l.key l.iv l.text l.entries
    ≡ first_side l.mode l.key l.iv l.text (drop l.entry-index l.entries)
