-- The spellings of the items so far were written.
use Rattle.std.proofs.Common.{◌≡◌, ◌++◌, take}
use Rattle.std.specs.List.{flat_map}
use Rattle.picky_wire.proofs.list_codec.encode_items.Given as goal

abbrev pub invariant-items : goal.invariant-items
invariant-items g l = record {
  written : g.S.Sink.tells l.initial.stream → g.S.Sink.written l.stream
      ≡ g.S.Sink.written l.initial.stream
      ++ flat_map g.T.SshComplexTypeEncode.spelling (take l.item-index l.items);
  told : g.S.Sink.tells l.initial.stream → g.S.Sink.tells l.stream;
  calm : g.S.Sink.faults l.stream ≡ g.S.Sink.faults l.initial.stream;
}
