-- A public key that is seen has 32 bytes.
use Rattle.picky_sshkey_blob.proofs.ViewLemmas.{ed_key_len}
use Rattle.picky_sshkey_blob.proofs.view_read.ed_at.Goals as goal

pub ed_secret_in-requires : goal.ed_secret_in-requires
ed_secret_in-requires c = ed_key_len c.args.from c.in_ok-public.next c.args.blob.now c.in_ok-public.public c.in_ok-public.ensures
