-- The laws of the key in a file.
use Rattle.picky_ppk.proofs.KeyLaws.{found_key_stands, standing_key_is_found}
use Rattle.picky_ppk.proofs.laws.key_is_where_it_stands.Goals as goal

pub returns-clause-says : goal.returns-clause-says
returns-clause-says c = found_key_stands

pub returns-clause-means : goal.returns-clause-means
returns-clause-means c = standing_key_is_found
