use Rattle.picky_text.proofs.RowLaws.{rows_of_are_rows}
use Rattle.picky_text.proofs.laws.text_has_its_rows_alone.Goals as goal

pub returns-clause-rows : goal.returns-clause-rows
returns-clause-rows c = rows_of_are_rows
