-- What was taken so far is kept, and is no longer than what was asked for.
use Rattle.std.proofs.Common.{◌≡◌, ◌≤◌, ◌-◌, ◌++◌, vec_len}
use Rattle.std.specs.Prelude.{IsSome}
use Rattle.picky_wire.proofs.read.read_chunks.Given as goal

abbrev pub invariant-chunks : goal.invariant-chunks
invariant-chunks g l = record {
  within : vec_len l.taken ≤ l.len;
  taken : g.S.Source.tells l.initial.source
      → g.S.Source.left l.initial.source ≡ l.taken.items ++ g.S.Source.left l.source;
  told : g.S.Source.tells l.initial.source → g.S.Source.tells l.source;
  knows : IsSome (g.S.Source.known l.initial.source) → IsSome (g.S.Source.known l.source);
  calm : g.S.Source.faults l.source ≡ g.S.Source.faults l.initial.source;
}

abbrev pub decreases-chunks : goal.decreases-chunks
decreases-chunks g l = l.len - vec_len l.taken
