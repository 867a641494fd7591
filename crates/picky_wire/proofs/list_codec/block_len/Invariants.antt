-- How long the spellings of the items so far are.
use Rattle.std.proofs.Common.{◌≡◌, ◌<◌, ◌^◌, length, take}
use Rattle.std.specs.List.{All, flat_map}
use Rattle.picky_wire.proofs.list_codec.block_len.Given as goal

abbrev pub invariant-items : goal.invariant-items
invariant-items g l = record {
  len : l.len ≡ length (flat_map g.T.SshComplexTypeEncode.spelling (take l.item-index l.items));
  short : l.len < 2 ^ 32;
  keeps : All g.T.SshComplexTypeEncode.keeps (take l.item-index l.items);
}
