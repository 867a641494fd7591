-- Both ways, by the law of the type.
use Rattle.picky_kv.proofs.BlockValueLemmas.{block_values}
use Rattle.picky_kv.proofs.laws.block_values_are_of_their_bytes.Goals as goal

pub returns : goal.returns
returns g c = block_values g.B.PpkField.field g.B.PpkBlock.made g.met.B.PpkBlock.blocks
