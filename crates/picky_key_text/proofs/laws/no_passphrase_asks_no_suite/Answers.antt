-- The lemma on a text without a passphrase.
use Rattle.picky_key_text.proofs.UnaskedLaws.{unasked}
use Rattle.picky_key_text.proofs.laws.no_passphrase_asks_no_suite.Goals as goal

pub returns : goal.returns
returns c = unasked
