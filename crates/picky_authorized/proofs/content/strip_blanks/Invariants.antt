-- What is left is the same without its spaces and tabs.
use Rattle.std.proofs.Common.{◌≡◌, length}
use denote.Text.{Utf8}
use denote.Shadow.{shadow}
use Rattle.picky_authorized.specs.Lines.{without_blanks}
use Rattle.picky_authorized.proofs.content.strip_blanks.Given as goal

abbrev pub invariant-blanks : goal.invariant-blanks
invariant-blanks l = shadow (Utf8 l.rest) × (without_blanks l.rest ≡ without_blanks l.text)

abbrev pub decreases-blanks : goal.decreases-blanks
decreases-blanks l = length l.rest
