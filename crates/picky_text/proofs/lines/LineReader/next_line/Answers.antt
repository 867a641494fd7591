-- A step of std's reader, by the lines that are left.
use Rattle.picky_text.proofs.LineLemmas.{no_line_left, first_of_left}
use Rattle.picky_text.proofs.lines.LineReader.next_line.Goals as goal

pub returns-clause-none : goal.returns-clause-none
returns-clause-none c =
    rw (← c.self.view_is) (no_line_left c.self.inside.rest c.next.new.self c.next.result
    c.next.ensures.steps)

pub returns-clause-line : goal.returns-clause-line
returns-clause-line c =
    rw (← c.self.view_is) (first_of_left c.self.inside.rest c.next.new.self c.next.result
    c.next.ensures.steps)
