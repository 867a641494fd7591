-- Where fewer bytes are known to be left, the field is short and none is taken.
use Rattle.std.proofs.Common.{[], sym, arith, refl}
use Rattle.picky_wire.proofs.ByteArrayLemmas.{byte_array_ended}
use Rattle.picky_wire.proofs.read.read_counted.Goals as goal

pub returns-then-known-len-clause-takes : goal.returns-then-known-len-clause-takes
returns-then-known-len-clause-takes g c =
    byte_array_ended g.S.Source.tells g.S.Source.left g.S.Source.known g.S.Source.faults c.args.len
    c.args.source.now c.args.source.now
    (λ told.
    let left = g.met.S.Source.knows c.args.source.now c.in-Some.known told (sym (c.in-Some.ensures)) in
    ([], refl, omega (arith, left, c.if-known-len.true)))
    (record { told = λ told. told; knows = λ known. known }) refl
