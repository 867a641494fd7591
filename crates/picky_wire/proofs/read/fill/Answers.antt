-- What was taken stands in the buffer's front.
use Rattle.std.proofs.Common.{◌≡◌, ◌≤◌, ◌<◌, ◌∙◌, ◌++◌, ap, sym, arith, length, take, drop, ◌-◌, Ok}
use Rattle.std.proofs.lemmas.List.{take_all, length-append, length-take-le}
use Rattle.picky_wire.proofs.ByteArrayLemmas.{byte_array_read, byte_array_ended, byte_array_stopped}
use Rattle.picky_wire_base.proofs.ReadLemmas.{more_filled, put_len, tail_len}
use Rattle.picky_wire.proofs.read.fill.Goals as goal

pub returns-clause-takes : goal.returns-clause-takes
returns-clause-takes g c =
    byte_array_read g.S.Source.tells g.S.Source.left g.S.Source.known g.S.Source.faults (length c.args.buffer.now) c.bytes.buffer
    c.args.source.now c.bytes.source c.bytes.auto.buffer
    (λ told. c.bytes.invariant.taken told ∙ ap (λ f. f ++ g.S.Source.left c.bytes.source) (take_all c.bytes.at c.bytes.buffer c.bytes-test.false))
    (record { told = c.bytes.invariant.told; knows = c.bytes.invariant.knows }) c.bytes.invariant.calm

pub returns-in-Ok-eq0-clause-takes : goal.returns-in-Ok-eq0-clause-takes
returns-in-Ok-eq0-clause-takes g c =
    byte_array_ended g.S.Source.tells g.S.Source.left g.S.Source.known g.S.Source.faults (length c.args.buffer.now)
    c.args.source.now c.read.new.self
    (λ told.
    let told_now = c.bytes.invariant.told told in
    let room : 0 < length (take (length c.bytes.buffer - c.bytes.at) (drop c.bytes.at c.bytes.buffer)) = omega (arith, tail_len c.bytes.at c.bytes.buffer) in
    let empty = c.in-Ok-eq0.ensures.end told_now (ap Ok c.in-Ok-eq0.field-0-test) room in
    let kept : g.S.Source.left c.bytes.source ≡ g.S.Source.left c.read.new.self = c.in-Ok-eq0.ensures.taken told_now ∙ ap (λ j. take j c.read.new.buffer ++ g.S.Source.left c.read.new.self) c.in-Ok-eq0.field-0-test in
    let same = c.bytes.invariant.taken told in
    let front = length-take-le c.bytes.at c.bytes.buffer c.bytes.invariant.within in (
      take c.bytes.at c.bytes.buffer,
      same ∙ ap (λ r. take c.bytes.at c.bytes.buffer ++ r) kept,
      omega (arith, ap length same, length-append (take c.bytes.at c.bytes.buffer) (g.S.Source.left c.bytes.source), ap length empty, front),
    ))
    (record { told = λ told. c.in-Ok-eq0.ensures.keeps.told (c.bytes.invariant.told told); knows = λ known. c.in-Ok-eq0.ensures.knows_on (c.bytes.invariant.knows known) })
    (c.in-Ok-eq0.ensures.keeps.calm ∙ c.bytes.invariant.calm)

pub returns-in-Err-clause-takes : goal.returns-in-Err-clause-takes
returns-in-Err-clause-takes g c =
    byte_array_stopped g.S.Source.tells g.S.Source.left g.S.Source.known g.S.Source.faults (length c.args.buffer.now)
    c.args.source.now c.read.new.self
    (λ told.
    let kept = c.in-Err.ensures.kept (c.bytes.invariant.told told) in
    let front = length-take-le c.bytes.at c.bytes.buffer c.bytes.invariant.within in (
      take c.bytes.at c.bytes.buffer,
      c.bytes.invariant.taken told ∙ ap (λ r. take c.bytes.at c.bytes.buffer ++ r) (sym kept),
      omega (arith, front, c.bytes-test.true),
    ))
    (record { told = λ told. c.in-Err.ensures.keeps.told (c.bytes.invariant.told told); knows = λ known. c.in-Err.ensures.knows_on (c.bytes.invariant.knows known) })
    (omega (arith, c.in-Err.ensures.keeps.counted, c.bytes.invariant.calm))

pub bytes-preserved : goal.bytes-preserved
bytes-preserved g c =
    let in_piece : c.in-Ok.n ≤ length c.read.new.buffer = omega (arith, c.in-Ok.ensures.bound, c.read.auto.buffer) in
    record {
      within = put_len c.bytes.at c.in-Ok.n c.bytes.buffer c.read.new.buffer _ c.bytes.invariant.within in_piece;
      taken = λ told.
          more_filled c.bytes.at c.in-Ok.n c.bytes.buffer c.read.new.buffer _ _ _ _ c.bytes.invariant.within in_piece
          (c.bytes.invariant.taken told) (c.in-Ok.ensures.taken (c.bytes.invariant.told told));
      told = λ told. c.in-Ok.ensures.keeps.told (c.bytes.invariant.told told);
      knows = λ known. c.in-Ok.ensures.knows_on (c.bytes.invariant.knows known);
      calm = c.in-Ok.ensures.keeps.calm ∙ c.bytes.invariant.calm;
    }
