-- By the cause of each refusal.
use Rattle.picky_inventory.proofs.EndLemmas.{bad_exactly, long_exactly, other_exactly, refused_exactly}
use Rattle.picky_inventory.proofs.laws.bytes_are_refused_for_what_they_are.Goals as goal

pub returns : goal.returns
returns c = record { too_long = long_exactly; not_utf8 = other_exactly; refused = refused_exactly; bad_line = bad_exactly }
