-- The parts, with a mark and without one.
use Rattle.picky_issuing.proofs.PartsLaws.{parts_where_marked, parts_where_unmarked}
use Rattle.picky_issuing.proofs.laws.source_has_its_parts.Goals as goal

pub returns-clause-marked : goal.returns-clause-marked
returns-clause-marked c = parts_where_marked

pub returns-clause-unmarked : goal.returns-clause-unmarked
returns-clause-unmarked c = parts_where_unmarked
