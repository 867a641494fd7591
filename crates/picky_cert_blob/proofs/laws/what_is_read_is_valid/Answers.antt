-- What is read is spelled in front.
use Rattle.picky_cert_blob.proofs.KeepLaws.{read_body_keeps}
use Rattle.picky_cert_blob.proofs.laws.what_is_read_is_valid.Goals as goal

pub returns-clause-read : goal.returns-clause-read
returns-clause-read c = read_body_keeps
