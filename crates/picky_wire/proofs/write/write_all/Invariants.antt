-- What was written so far is the front of the bytes.
use Rattle.std.proofs.Common.{◌≡◌, ◌≤◌, ◌-◌, ◌++◌, length, take}
use Rattle.picky_wire.proofs.write.write_all.Given as goal

abbrev pub invariant-bytes : goal.invariant-bytes
invariant-bytes g l = record {
  within : l.at ≤ length l.bytes;
  written : g.S.Sink.tells l.initial.sink
      → g.S.Sink.written l.sink ≡ g.S.Sink.written l.initial.sink ++ take l.at l.bytes;
  told : g.S.Sink.tells l.initial.sink → g.S.Sink.tells l.sink;
  calm : g.S.Sink.faults l.sink ≡ g.S.Sink.faults l.initial.sink;
}

abbrev pub decreases-bytes : goal.decreases-bytes
decreases-bytes g l = length l.bytes - l.at
