-- The same by the lines that they show.
use Rattle.std.proofs.Common.{ℕ, Global, Vec}
use Rattle.std.proofs.lemmas.List.Filters.{dedup_is}
use Rattle.picky_inventory.proofs.OrderLaws.{sorted_once_seen}
use Rattle.picky_inventory.proofs.sorted.sorted_lines.Goals as goal

pub returns : goal.returns
returns c =
    sorted_once_seen (λ (line : Vec ℕ Global). line.items) _ _ _ c.sort_unstable.ensures.permutation
    c.sort_unstable.ensures.sorted (dedup_is _ _ _ c.dedup.ensures.filtered)
