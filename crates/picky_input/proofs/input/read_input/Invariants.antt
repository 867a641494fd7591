-- What was taken so far, and what is left, is what there was.
use Rattle.std.proofs.Common.{◌≡◌, ◌≤◌, ◌-◌, ◌++◌, vec_len}
use Rattle.std.specs.Prelude.{IsSome}
use Rattle.picky_input.proofs.input.read_input.Given as goal

abbrev pub invariant-chunks : goal.invariant-chunks
invariant-chunks g l = record {
  few : vec_len l.input ≤ 16777217;
  taken : g.S.Source.tells l.initial.source
      → g.S.Source.left l.initial.source ≡ l.input.items ++ g.S.Source.left l.source;
  told : g.S.Source.tells l.initial.source → g.S.Source.tells l.source;
  knows : IsSome (g.S.Source.known l.initial.source) → IsSome (g.S.Source.known l.source);
  calm : g.S.Source.faults l.source ≡ g.S.Source.faults l.initial.source;
}

abbrev pub decreases-chunks : goal.decreases-chunks
decreases-chunks g l = 16777217 - vec_len l.input
