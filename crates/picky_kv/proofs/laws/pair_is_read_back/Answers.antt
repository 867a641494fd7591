-- A key is written as its literal, which is plain.
use Rattle.picky_kv.proofs.ReadBackLemmas.{pair_is_read_back}
use Rattle.picky_kv.proofs.laws.pair_is_read_back.Goals as goal

pub returns : goal.returns
returns g c =
    pair_is_read_back g.T.Key.PpkField.field g.T.Value.PpkField.field g.T.Key.PpkLiteral.name
    (λ k. rw (g.met.T.PpkKeyValue.key_written k) (g.met.T.PpkKeyValue.key_plain k))
