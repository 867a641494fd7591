-- A key that was read keeps the ranges of its parts, so its spelling is read back.
use Rattle.picky_keys.proofs.KeyLaws.{read_is_key}
use Rattle.picky_keys.proofs.CanonicalLaws.{read_is_written}
use Rattle.picky_keys.proofs.laws.blob_is_written_canonically.Goals as goal

pub returns-clause-key : goal.returns-clause-key
returns-clause-key c = read_is_key

pub returns-clause-again : goal.returns-clause-again
returns-clause-again c = read_is_written
