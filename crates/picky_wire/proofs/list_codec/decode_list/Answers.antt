-- A list is taken as its string is.
use Rattle.std.proofs.Common.{ap, length, arith}
use Rattle.picky_wire.proofs.ListLemmas.{list_takes, list_cause, string_taken, string_refused_there}
use Rattle.picky_wire.proofs.list_codec.decode_list.Goals as goal

pub returns-in-Ok-clause-takes : goal.returns-in-Ok-clause-takes
returns-in-Ok-clause-takes g c =
    list_takes g.S.Source.tells g.S.Source.left g.S.Source.known g.S.Source.faults g.T.Error.CodecError.of_wire
    g.T.SshLayout.layout c.in-Ok.block c.decode_items.result c.args.stream.now c.read_ssh_bytes.new.self c.in-Ok.ensures.takes
    (rw c.as_slice.ensures.bytes at c.decode_items.ensures.gives) c.decode_items.ensures.no_fault

pub returns-in-Ok-clause-cause : goal.returns-in-Ok-clause-cause
returns-in-Ok-clause-cause g c =
    list_cause g.T.Error.CodecError.of_wire g.T.SshLayout.layout c.in-Ok.block c.decode_items.result _
    (omega (arith, c.as_slice.ensures.short, ap length c.as_slice.ensures.bytes))
    (rw c.as_slice.ensures.bytes at c.decode_items.ensures.gives)

pub returns-in-Ok-clause-taken : goal.returns-in-Ok-clause-taken
returns-in-Ok-clause-taken g c = λ told.
    string_taken g.T.Error.CodecError.of_wire c.decode_items.result _ _ (c.in-Ok.ensures.takes.whole told)

pub returns-in-Err-clause-taken : goal.returns-in-Err-clause-taken
returns-in-Err-clause-taken g c = λ told.
    string_refused_there g.T.Error.CodecError.of_wire c.in-Err.e _ _ _ c.refusal.ensures (c.in-Err.ensures.takes.answers told)
