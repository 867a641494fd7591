-- Each clause is a law.
use Rattle.picky_sshkey.proofs.MeaningLaws.{content_says, content_means, text_says, text_means, one_text_key}
use Rattle.picky_sshkey.proofs.laws.private_key_means_what_it_says.Goals as goal

pub returns-clause-says_content : goal.returns-clause-says_content
returns-clause-says_content c = content_says

pub returns-clause-means_content : goal.returns-clause-means_content
returns-clause-means_content c = content_means

pub returns-clause-says : goal.returns-clause-says
returns-clause-says c = text_says

pub returns-clause-means : goal.returns-clause-means
returns-clause-means c = text_means

pub returns-clause-one : goal.returns-clause-one
returns-clause-one c = one_text_key
