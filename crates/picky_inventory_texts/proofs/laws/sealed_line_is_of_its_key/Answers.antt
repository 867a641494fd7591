-- What is listed as sealed is what the text shows.
use Rattle.picky_inventory_texts.proofs.SealedLemmas.{sealed_is_of}
use Rattle.picky_inventory_texts.proofs.laws.sealed_line_is_of_its_key.Goals as goal

pub returns : goal.returns
returns c = sealed_is_of
