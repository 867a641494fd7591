-- So many bytes are drawn.
use Rattle.std.proofs.Common.{◌≡◌, take, length}
use Rattle.picky_convert.specs.Generator.{state_after, generated}
use Rattle.picky_convert.proofs.generator.Generator.array.Given as goal

abbrev pub invariant-bytes : goal.invariant-bytes
invariant-bytes l = record {
  bytes : take l.at l.bytes ≡ generated l.at l.initial.self.state;
  state : l.self.state ≡ state_after l.at l.initial.self.state;
  len : length l.bytes ≡ 32;
}
