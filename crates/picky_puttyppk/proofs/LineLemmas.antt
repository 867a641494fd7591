-- What the test of a line lets pass is a line.
use Rattle.std.proofs.Common.{◌≡◌, ◌-◌, Bool, true, false, ◌&&◌, not, List, ℕ, length, slice_index, refl}
use Rattle.std.proofs.lemmas.Bool.{eq-eqb}
use Rattle.picky_text.specs.Lines.{IsLine}
use Rattle.picky_text.specs.declared.lines.LineEnd.{LineEnd}
use Rattle.picky_text.specs.declared.lines.LineEnd.TheVariants.{Lf, CrLf}
use Rattle.picky_keys.proofs.ByteLaws.{no_by_test}
use Rattle.picky_puttyppk.specs.PuttyText.{ends_in_cr, has_lf, is_line}

was_false : (b : Bool) → not b ≡ true → b ≡ false
was_false true is = cc is
was_false false is = refl

both_true : (a b : Bool) → (a && b) ≡ true → (a ≡ true) × (b ≡ true)
both_true true true is = (refl, refl)
both_true true false is = cc is
both_true false b is = cc is

pub tested_is_line : (end : LineEnd) (text : List ℕ) → is_line end text ≡ true → IsLine end text
tested_is_line Lf text is =
    let parts = both_true (not (has_lf text)) (not (ends_in_cr text)) is in
    let last = slice_index text (length text - 1) in (
      no_by_test 10 text (was_false (has_lf text) parts.0),
      λ cr. cc (was_false (ends_in_cr text) parts.1, eq-eqb last 13 cr),
    )
tested_is_line CrLf text is = no_by_test 10 text (was_false (has_lf text) is)

pub ruleset lines = (tested_is_line)
