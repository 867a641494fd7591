-- Both ways, and so one file.
use Rattle.picky_ppk_file.proofs.FileLaws.{meaning_is_said, said_is_meant, one_is_said}
use Rattle.picky_ppk_file.proofs.laws.text_means_what_it_says.Goals as goal

pub returns : goal.returns
returns c = record { says = meaning_is_said; means = said_is_meant; one = one_is_said }
