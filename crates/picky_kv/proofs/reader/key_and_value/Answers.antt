-- Where std's search finds the separator first, the line is cut.
use Rattle.picky_kv.proofs.CutLemmas.{cut_as_found}
use Rattle.picky_kv.proofs.reader.key_and_value.Goals as goal

pub returns-clause-none : goal.returns-clause-none
returns-clause-none c =
    (cut_as_found c.args.line.now c.split_once.result c.split_once.ensures.cases).0

pub returns-clause-parts : goal.returns-clause-parts
returns-clause-parts c =
    (cut_as_found c.args.line.now c.split_once.result c.split_once.ensures.cases).1
