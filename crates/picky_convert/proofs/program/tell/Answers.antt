-- What was put is the line of the status.
use Rattle.std.proofs.Common.{◌∙◌, ap, subst, arith, length}
use Rattle.picky_wire.specs.Puts.{Puts}
use Rattle.picky_wire.specs.declared.error.WireError.TheVariants as wire
use Rattle.picky_convert.proofs.ReportLemmas.{line_of_pieces, parts_short}
use Rattle.picky_convert.proofs.program.tell.Goals as goal

pub raw-requires-in-Refused : goal.raw-requires-in-Refused
raw-requires-in-Refused g c =
    let word = c.word-word in
    let short = parts_short c.args.status.now word.result.path.now word.result.name.now word.ensures.word in
    omega (arith, short.0, ap length c.as_bytes.ensures.value)

pub raw-requires-in-Refused-2 : goal.raw-requires-in-Refused-2
raw-requires-in-Refused-2 g c =
    let word = c.word-word in
    let short = parts_short c.args.status.now word.result.path.now word.result.name.now word.ensures.word in
    omega (arith, short.1, ap length c.as_bytes-in-Refused.ensures.value)

pub returns-in-Refused-clause-said : goal.returns-in-Refused-clause-said
returns-in-Refused-clause-said g c = λ other.
    let word = c.word-word in (
      c.write_pieces.result,
      subst (λ line. Puts g.E.Sink.tells g.E.Sink.written g.E.Sink.faults wire.WriteFault line c.write_pieces.result
          c.args.err.now c.write_pieces.new.stream)
          (line_of_pieces c.args.status.now c.raw.result c.raw-in-Refused.result c.raw-in-Refused-2.result c.raw-in-Refused-3.result
          word.result.path.now word.result.name.now c.raw.ensures.raw (c.raw-in-Refused.ensures.raw ∙ c.as_bytes.ensures.value)
          (c.raw-in-Refused-2.ensures.raw ∙ c.as_bytes-in-Refused.ensures.value) c.raw-in-Refused-3.ensures.raw word.ensures.word)
          c.write_pieces.ensures,
    )
