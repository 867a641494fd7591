-- The laws of a private key's parts.
use Rattle.picky_ppk_parts.proofs.PartsLaws.{parts_complete, parts_stand_for_one}
use Rattle.picky_ppk_parts.proofs.laws.parts_are_read_where_they_stand.Goals as goal

pub returns-clause-means : goal.returns-clause-means
returns-clause-means c = parts_complete

pub returns-clause-one : goal.returns-clause-one
returns-clause-one c = parts_stand_for_one
