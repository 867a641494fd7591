-- What was taken so far is a front of the bytes, and no byte of it ends a line.
use Rattle.std.proofs.Common.{◌≡◌, ◌≤◌, ◌-◌, ◌^◌, ◌++◌, vec_len}
use Rattle.std.specs.Prelude.{IsSome}
use Rattle.picky_keys.specs.SourceLine.{Stays}
use Rattle.picky_keys.proofs.source_line.take_line.Given as goal

abbrev pub invariant-bytes : goal.invariant-bytes
invariant-bytes g l = record {
  within : vec_len l.line ≤ 2 ^ 32;
  stays : Stays l.line.items;
  taken : g.S.Source.tells l.initial.stream
      → g.S.Source.left l.initial.stream ≡ l.line.items ++ g.S.Source.left l.stream;
  told : g.S.Source.tells l.initial.stream → g.S.Source.tells l.stream;
  knows : IsSome (g.S.Source.known l.initial.stream) → IsSome (g.S.Source.known l.stream);
  calm : g.S.Source.faults l.stream ≡ g.S.Source.faults l.initial.stream;
}

abbrev pub decreases-bytes : goal.decreases-bytes
decreases-bytes g l = 2 ^ 32 - vec_len l.line
