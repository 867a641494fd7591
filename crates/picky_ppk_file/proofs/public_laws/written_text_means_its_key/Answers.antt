-- A text means the key in its blob.
use Rattle.picky_ppk_file.proofs.KeyLaws.{putty_key_of}
use Rattle.picky_ppk_file.proofs.public_laws.written_text_means_its_key.Goals as goal

pub returns-clause-means : goal.returns-clause-means
returns-clause-means c = putty_key_of
