use Rattle.std.proofs.Common.{rules}
use Rattle.std.proofs.lemmas.List.{drop-replicate}
use Rattle.picky_suite.proofs.hmac.padded_key.Goals as goal

pub returns : goal.returns
returns c = rw drop-replicate (search rules)
