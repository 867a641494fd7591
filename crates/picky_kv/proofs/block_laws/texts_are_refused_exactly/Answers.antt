-- Each text is judged one way.
use Rattle.picky_kv.proofs.LineLemmas.{taken_is_whole, bad_iff, long_iff}
use Rattle.picky_kv.proofs.block_laws.texts_are_refused_exactly.Goals as goal

pub returns : goal.returns
returns c = record { whole = taken_is_whole; bad = bad_iff; long = long_iff }
