-- Where the spellings so far are too long, all of them are.
use Rattle.picky_wire.proofs.ListLemmas.{spellings_too_long}
use Rattle.picky_wire.proofs.list_codec.block_len.Goals as goal

pub returns-then-len-clause-len : goal.returns-then-len-clause-len
returns-then-len-clause-len g c =
    spellings_too_long g.T.SshComplexTypeEncode.spelling c.args.items.now c.items.item-index c.item-item.result
    c.items.len c.spelling_len-len.result c.items-test.true c.item-item.is c.items.invariant.len
    c.spelling_len-len.ensures.len c.if-len.true
