-- A list is the string of its spellings joined.
use Rattle.std.proofs.Common.{◌≡◌, ◌∙◌, ap, length}
use Rattle.std.specs.Int.{w32, to_be_bytes}
use Rattle.std.specs.List.{flat_map}
use Rattle.picky_wire_base.specs.Wire.{string_of}
use Rattle.picky_wire.specs.declared.error.WireError.TheVariants as errors
use Rattle.picky_wire.proofs.WriteLemmas.{puts_then, puts_first, puts_as, puts_done}
use Rattle.picky_wire.proofs.list_codec.encode_list.Goals as goal

pub returns-in-Err-clause-puts : goal.returns-in-Err-clause-puts
unfolding string_of
returns-in-Err-clause-puts g c = λ short.
    let block = flat_map g.T.SshComplexTypeEncode.spelling c.args.items.now in
    let len : c.to_be_bytes.result ≡ to_be_bytes w32 (length block) =
    c.to_be_bytes.ensures ∙ ap (to_be_bytes w32) c.in-Some.ensures.len in
    puts_as {A = Unit {0}} g.S.Sink.tells g.S.Sink.written g.S.Sink.faults errors.WriteFault _ _ c.in-Err.field-0 _ _ _ c.write_refusal-in-Err.ensures
    (puts_first (to_be_bytes w32 (length block)) block (rw len at c.in-Err.ensures))

pub returns-in-Ok-encode_items-clause-puts : goal.returns-in-Ok-encode_items-clause-puts
unfolding string_of
returns-in-Ok-encode_items-clause-puts g c = λ short.
    let block = flat_map g.T.SshComplexTypeEncode.spelling c.args.items.now in
    let len : c.to_be_bytes.result ≡ to_be_bytes w32 (length block) =
    c.to_be_bytes.ensures ∙ ap (to_be_bytes w32) c.in-Some.ensures.len in
    let fault = g.T.Error.CodecError.of_wire errors.WriteFault in
    puts_then (puts_done g.S.Sink.tells g.S.Sink.written g.S.Sink.faults errors.WriteFault fault _ _ c.in-Ok.field-0 _ _ (rw len at c.in-Ok.ensures))
    c.in-Ok-encode_items.ensures

pub returns-in-Err-encode_items-clause-puts : goal.returns-in-Err-encode_items-clause-puts
unfolding string_of
returns-in-Err-encode_items-clause-puts g c = λ short.
    let block = flat_map g.T.SshComplexTypeEncode.spelling c.args.items.now in
    let len : c.to_be_bytes.result ≡ to_be_bytes w32 (length block) =
    c.to_be_bytes.ensures ∙ ap (to_be_bytes w32) c.in-Some.ensures.len in
    let fault = g.T.Error.CodecError.of_wire errors.WriteFault in
    puts_then (puts_done g.S.Sink.tells g.S.Sink.written g.S.Sink.faults errors.WriteFault fault _ _ c.in-Ok.field-0 _ _ (rw len at c.in-Ok.ensures))
    c.in-Err-encode_items.ensures
