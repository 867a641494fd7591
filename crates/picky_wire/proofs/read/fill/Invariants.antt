-- The buffer's front holds what was taken so far.
use Rattle.std.proofs.Common.{◌≡◌, ◌≤◌, ◌-◌, ◌++◌, length, take}
use Rattle.std.specs.Prelude.{IsSome}
use Rattle.picky_wire.proofs.read.fill.Given as goal

abbrev pub invariant-bytes : goal.invariant-bytes
invariant-bytes g l = record {
  within : l.at ≤ length l.buffer;
  taken : g.S.Source.tells l.initial.source
      → g.S.Source.left l.initial.source ≡ take l.at l.buffer ++ g.S.Source.left l.source;
  told : g.S.Source.tells l.initial.source → g.S.Source.tells l.source;
  knows : IsSome (g.S.Source.known l.initial.source) → IsSome (g.S.Source.known l.source);
  calm : g.S.Source.faults l.source ≡ g.S.Source.faults l.initial.source;
}

abbrev pub decreases-bytes : goal.decreases-bytes
decreases-bytes g l = length l.initial.buffer - l.at
