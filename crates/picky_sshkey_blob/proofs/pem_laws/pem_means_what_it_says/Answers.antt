-- A text has the content that it says, and says one.
use Rattle.picky_sshkey_blob.proofs.MeaningLaws.{pem_means, one_pem}
use Rattle.picky_sshkey_blob.proofs.pem_laws.pem_means_what_it_says.Goals as goal

pub returns-clause-means : goal.returns-clause-means
returns-clause-means c = pem_means

pub returns-clause-one : goal.returns-clause-one
returns-clause-one c = one_pem
