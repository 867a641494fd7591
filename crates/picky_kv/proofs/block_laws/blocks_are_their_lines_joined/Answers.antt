-- Both ways.
use Rattle.picky_kv.proofs.LineLemmas.{block_says, block_means}
use Rattle.picky_kv.proofs.block_laws.blocks_are_their_lines_joined.Goals as goal

pub returns : goal.returns
returns c = record { says = block_says; means = block_means }
