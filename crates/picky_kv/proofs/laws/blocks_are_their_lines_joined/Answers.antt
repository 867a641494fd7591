-- Both ways.
use Rattle.picky_kv.proofs.JoinLemmas.{first_joined_iff, first_joined_none_iff}
use Rattle.picky_kv.proofs.laws.blocks_are_their_lines_joined.Goals as goal

pub returns : goal.returns
returns c = record { joined = first_joined_iff; none = first_joined_none_iff }
