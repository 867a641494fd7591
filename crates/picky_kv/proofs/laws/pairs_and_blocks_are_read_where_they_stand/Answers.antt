-- Both ways.
use Rattle.picky_kv.proofs.PartLemmas.{pairs_are_read, blocks_are_read, ended_iff}
use Rattle.picky_kv.proofs.PartLemmas.{unseparated_iff}
use Rattle.picky_kv.proofs.laws.pairs_and_blocks_are_read_where_they_stand.Goals as goal

pub returns : goal.returns
returns g c = record {
  pair = pairs_are_read g.T.Key.PpkField.field g.T.Value.PpkField.field g.T.Key.PpkLiteral.name;
  block = blocks_are_read g.B.Key.PpkField.field g.B.Value.PpkField.field g.B.Key.PpkLiteral.name;
  ended = ended_iff g.T.Key.PpkField.field g.T.Value.PpkField.field g.T.Key.PpkLiteral.name;
  unseparated = unseparated_iff g.T.Key.PpkField.field g.T.Value.PpkField.field
      g.T.Key.PpkLiteral.name;
}
