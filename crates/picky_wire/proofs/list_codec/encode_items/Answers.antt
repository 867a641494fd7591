-- A write that stopped in one spelling stopped in all of them.
use Rattle.std.proofs.Common.{◌≡◌, sym, subst}
use Rattle.std.specs.Prelude.{None}
use Rattle.picky_wire.proofs.ListLemmas.{list_stopped, puts_taken}
use Rattle.picky_wire.specs.declared.error.WireError.TheVariants as errors
use Rattle.picky_wire.proofs.list_codec.encode_items.Goals as goal

pub returns-in-Err : goal.returns-in-Err
returns-in-Err g c =
    list_stopped g.S.Sink.tells g.S.Sink.written g.S.Sink.faults (g.T.Error.CodecError.of_wire errors.WriteFault)
    g.T.SshComplexTypeEncode.spelling c.args.items.now c.items.item-index c.item-item.result c.in-Err.e
    c.args.stream.now c.items.stream c.encode.new.stream c.items-test.true c.item-item.is c.items.invariant.written
    c.items.invariant.told c.items.invariant.calm
    (puts_taken _ _ _ (subst (λ x. g.T.SshComplexTypeEncode.write_reason x ≡ None) (sym c.item-item.is) (c.requires c.items.item-index c.item-item.result c.items-test.true)) c.in-Err.ensures)
