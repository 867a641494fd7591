-- A key is written as its literal, which is plain.
use Rattle.picky_kv.proofs.ReadBackLemmas.{block_is_read_back}
use Rattle.picky_kv.proofs.laws.block_is_read_back.Goals as goal

pub returns : goal.returns
returns g c =
    block_is_read_back g.T.Key.PpkField.field g.T.Value.PpkField.field g.T.Key.PpkLiteral.name
    (λ k. rw (g.met.T.PpkMultilineKeyValue.key_written k)
    (g.met.T.PpkMultilineKeyValue.key_plain k))
