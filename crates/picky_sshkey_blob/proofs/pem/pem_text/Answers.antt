-- The last LF is written.
use Rattle.picky_sshkey_blob.proofs.WrittenLemmas.{text_written}
use Rattle.picky_sshkey_blob.proofs.pem.pem_text.Goals as goal

pub returns : goal.returns
returns c = text_written c.args.content.now _ _ c.in_ok-text.ensures c.in_ok-push_str.ensures.bytes
