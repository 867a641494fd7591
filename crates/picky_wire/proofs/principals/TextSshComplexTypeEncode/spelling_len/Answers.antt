-- A string is its bytes and four more.
use Rattle.std.proofs.Common.{ap, arith, length}
use Rattle.picky_wire_base.proofs.PieceLemmas.{length-string_of}
use Rattle.picky_wire.proofs.principals.TextSshComplexTypeEncode.spelling_len.Goals as goal

pub returns-clause-len : goal.returns-clause-len
returns-clause-len c =
    omega (arith, length-string_of c.args.self.now, ap length c.as_str.ensures.bytes, c.as_str.ensures.short)
