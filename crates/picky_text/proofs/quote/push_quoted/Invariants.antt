use Rattle.std.proofs.Common.{length, string_bytes}
use denote.Text.{Utf8}
use denote.Shadow.{shadow}
use Rattle.picky_text.specs.Quote.{quote}
use Rattle.picky_text.proofs.FrontLemmas.{IsWriting}
use Rattle.picky_text.proofs.quote.push_quoted.Given as goal

abbrev pub invariant-pieces : goal.invariant-pieces
invariant-pieces l =
    shadow (Utf8 l.rest)
    × IsWriting (string_bytes l.fn.out) (string_bytes l.out) (quote l.rest) (quote l.text)

abbrev pub decreases-pieces : goal.decreases-pieces
decreases-pieces l = length l.rest
