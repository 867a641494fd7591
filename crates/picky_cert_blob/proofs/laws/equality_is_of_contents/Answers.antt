-- Two views are equal where their fields are, one after another.
use Rattle.picky_cert_blob.proofs.EqualityLemmas.{stopped_equal, head_equal, grants_equal, body_equal}
use Rattle.picky_cert_blob.proofs.laws.equality_is_of_contents.Goals as goal

pub returns-clause-stopped : goal.returns-clause-stopped
returns-clause-stopped c = stopped_equal

pub returns-clause-head : goal.returns-clause-head
returns-clause-head c = head_equal

pub returns-clause-grants : goal.returns-clause-grants
returns-clause-grants c = grants_equal

pub returns-clause-body : goal.returns-clause-body
returns-clause-body c = body_equal
