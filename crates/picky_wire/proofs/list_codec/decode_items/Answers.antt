-- The values of a block are read one after another.
use Rattle.std.proofs.Common.{◌≡◌, ◌<◌, ◌∙◌, sym, ap, length, arith}
use Rattle.picky_wire_base.proofs.Steps.{following, taking_more, taking_ends}
use Rattle.picky_wire_base.specs.Row.{read_all}
use Rattle.picky_wire.proofs.ListLemmas.{refused_or_want}
use Rattle.picky_wire.proofs.list_codec.decode_items.Goals as goal

pub items-preserved : goal.items-preserved
items-preserved g c =
    let G = g.T.SshLayout.layout in
    let t = g.met.T.SshLayout in
    let some : 0 < length c.items.rest = omega (arith, ap length c.rest.ensures.left) in
    let read = sym (t.reads_layout c.items.rest) ∙ c.in-Ok.ensures.takes.answers c.rest.ensures.bytes in
    ap (λ vs. following vs (read_all G c.decode.new.stream)) c.in-Ok-push.ensures.ok
    ∙ sym (taking_more G t.solid c.items.items c.items.rest c.in-Ok.item c.decode.new.stream some read)
    ∙ c.items.invariant

pub returns-in-Err-clause-gives : goal.returns-in-Err-clause-gives
returns-in-Err-clause-gives g c =
    let G = g.T.SshLayout.layout in
    let t = g.met.T.SshLayout in
    let some : 0 < length c.items.rest = omega (arith, ap length c.rest.ensures.left) in
    refused_or_want G g.T.SshComplexTypeDecode.reads t.reads_layout g.T.Error.CodecError.of_wire g.met.T.SshComplexTypeDecode.own c.items.items c.items.rest c.args.block.now c.in-Err.e some
    c.items.invariant c.in-Err.ensures.cause (c.in-Err.ensures.takes.answers c.rest.ensures.bytes)

pub returns-clause-gives : goal.returns-clause-gives
returns-clause-gives g c =
    let none : length c.items.rest ≡ 0 = omega (arith, ap length c.rest.ensures.left) in
    sym c.items.invariant ∙ taking_ends g.T.SshLayout.layout c.items.items c.items.rest none
