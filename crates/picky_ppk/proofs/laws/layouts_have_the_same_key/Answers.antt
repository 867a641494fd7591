use Rattle.picky_ppk.proofs.LayoutLaws.{laid_has_secret, laid_is_made_for_putty, laid_key_comes_back, number_is_of_base_key}
use Rattle.picky_ppk.proofs.laws.layouts_have_the_same_key.Goals as goal

pub returns-clause-key : goal.returns-clause-key
returns-clause-key c = laid_key_comes_back

pub returns-clause-number : goal.returns-clause-number
returns-clause-number c = number_is_of_base_key

pub returns-clause-putty : goal.returns-clause-putty
returns-clause-putty c = laid_is_made_for_putty

pub returns-clause-secret : goal.returns-clause-secret
returns-clause-secret c = laid_has_secret
