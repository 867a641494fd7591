-- So many bytes are drawn.
use Rattle.std.proofs.Common.{◌≡◌, ◌++◌}
use Rattle.picky_convert.specs.Generator.{state_after, generated}
use Rattle.picky_convert.proofs.generator.Generator.append.Given as goal

abbrev pub invariant-bytes : goal.invariant-bytes
invariant-bytes l = record {
  bytes : l.bytes.items ≡ l.initial.bytes.items ++ generated l.at l.initial.self.state;
  state : l.self.state ≡ state_after l.at l.initial.self.state;
}
