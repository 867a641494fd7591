-- A line by its words.
use Rattle.picky_request.proofs.LineLaws.{line_is_one}
use Rattle.picky_request.proofs.laws.line_is_one_request.Goals as goal

pub returns : goal.returns
returns c = line_is_one
