-- What is kept behind the groups of four is pending.
use Rattle.picky_kv.proofs.StateLemmas.{pending_of}
use Rattle.picky_kv.proofs.block.BlockDecoder.pending.Goals as goal

pub returns : goal.returns
returns c = pending_of c.self.inside.bytes.items _ c.as_slice.result.now c.args.self.now
    c.as_slice.ensures.value c.as_slice.ensures.few c.self.view_is
