use Rattle.std.proofs.Common.{rules, bit_xor}
use Rattle.std.proofs.lemmas.List.Edits.{map_over_more}
use Rattle.picky_suite.proofs.hmac.xored_block.Goals as goal

pub loop-byte-preserved : goal.loop-byte-preserved
loop-byte-preserved c = search (rules, map_over_more (λ byte. bit_xor byte c.args.pad))
