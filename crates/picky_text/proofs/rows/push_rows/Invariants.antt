use Rattle.std.proofs.Common.{length, string_bytes}
use denote.Text.{Utf8}
use denote.Shadow.{shadow}
use Rattle.std.specs.Str.{IsAscii}
use Rattle.picky_text.specs.Lines.{text_of}
use Rattle.picky_text.specs.Rows.{rows_of}
use Rattle.picky_text.proofs.FrontLemmas.{IsWriting}
use Rattle.picky_text.proofs.rows.push_rows.Given as goal

abbrev pub invariant-rows : goal.invariant-rows
invariant-rows l =
    shadow (Utf8 l.rest) × IsAscii l.rest
    × IsWriting (string_bytes l.fn.out) (string_bytes l.out) (text_of l.end (rows_of l.rest))
    (text_of l.end (rows_of l.text))

abbrev pub decreases-rows : goal.decreases-rows
decreases-rows l = length l.rest
