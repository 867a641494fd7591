use Rattle.picky_input.proofs.TextLaws.{text_is_its_bytes}
use Rattle.picky_input.proofs.laws.text_is_its_bytes.Goals as goal

pub returns : goal.returns
returns c = text_is_its_bytes
