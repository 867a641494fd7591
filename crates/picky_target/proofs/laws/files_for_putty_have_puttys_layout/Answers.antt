use Rattle.picky_target.proofs.LayoutBack.{spelled_for_putty}
use Rattle.picky_target.proofs.laws.files_for_putty_have_puttys_layout.Goals as goal

pub returns : goal.returns
returns c = spelled_for_putty
