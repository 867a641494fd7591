-- The line is what was taken so far; the next byte ends it, or there is none.
use Rattle.std.proofs.Common.{sym, ◌∙◌, ◌++◌, ap, arith, inr, append_assoc, ◌∷◌, []}
use Rattle.std.proofs.lemmas.List.{length-append}
use Rattle.picky_keys.proofs.SourceLemmas.{stays_push, line_ends, line_is_all, line_is_too_long, line_refused}
use Rattle.picky_keys.proofs.SourceLemmas.{rose_since, line_takes, too_long_takes, fault_takes, want_takes}
use Rattle.picky_keys.proofs.source_line.take_line.Goals as goal

pub returns-in-Ok-None-clause-takes : goal.returns-in-Ok-None-clause-takes
returns-in-Ok-None-clause-takes g c =
    let line = c.bytes.line.items in
    let held = c.bytes.invariant in
    line_takes g.S.Source.tells g.S.Source.left g.S.Source.known g.S.Source.faults g.E.CodecError.of_wire line _ _ (λ told.
    let end = rw c.in-Ok-None.field-0-is at c.in-Ok-None.ensures.byte (held.told told) in
    line_is_all g.E.CodecError.of_wire line _ _ _ held.stays (omega arith) (held.taken told) end)
    (λ told. c.in-Ok-None.ensures.keeps.told (held.told told)) (λ known. c.in-Ok-None.ensures.knows_on (held.knows known))
    (c.in-Ok-None.ensures.keeps.calm ∙ held.calm)

pub returns-then-ends_the_line-clause-takes : goal.returns-then-ends_the_line-clause-takes
returns-then-ends_the_line-clause-takes g c =
    let line = c.bytes.line.items in
    let held = c.bytes.invariant in
    line_takes g.S.Source.tells g.S.Source.left g.S.Source.known g.S.Source.faults g.E.CodecError.of_wire line _ _ (λ told.
    let next = rw c.in-Ok-Some.field-0-is at c.in-Ok-Some.ensures.byte (held.told told) in
    line_ends g.E.CodecError.of_wire line _ _ _ _ held.stays (sym c.ends_the_line.ensures ∙ c.if-ends_the_line.true) (omega arith)
    (held.taken told) next)
    (λ told. c.in-Ok-Some.ensures.keeps.told (held.told told)) (λ known. c.in-Ok-Some.ensures.knows_on (held.knows known))
    (c.in-Ok-Some.ensures.keeps.calm ∙ held.calm)

pub returns-in-Err-push-clause-takes : goal.returns-in-Err-push-clause-takes
returns-in-Err-push-clause-takes g c =
    let line = c.bytes.line.items in
    let held = c.bytes.invariant in
    rw c.from_wire.ensures (want_takes g.S.Source.tells g.S.Source.left g.S.Source.known g.S.Source.faults
    g.E.CodecError.of_wire _ _ g.met.E.CodecError.apart (λ told.
    let next = rw c.in-Ok-Some.field-0-is at c.in-Ok-Some.ensures.byte (held.told told) in
    record {
      line = line ++ c.in-Ok-Some.byte ∷ [];
      stays = stays_push line _ held.stays (sym c.ends_the_line.ensures ∙ c.if-ends_the_line.false);
      short = omega (arith, length-append line (c.in-Ok-Some.byte ∷ []));
      are = held.taken told ∙ ap (λ r. line ++ r) next ∙ sym (append_assoc line (c.in-Ok-Some.byte ∷ []) _);
    })
    (λ told. c.in-Ok-Some.ensures.keeps.told (held.told told)) (λ known. c.in-Ok-Some.ensures.knows_on (held.knows known))
    (c.in-Ok-Some.ensures.keeps.calm ∙ held.calm))

pub returns-in-Err-clause-takes : goal.returns-in-Err-clause-takes
returns-in-Err-clause-takes g c =
    let held = c.bytes.invariant in
    rw c.from_wire-in-Err.ensures (fault_takes g.S.Source.tells g.S.Source.left g.S.Source.known g.S.Source.faults
    g.E.CodecError.of_wire _ _ (λ told. (
      record {
        line = c.bytes.line.items;
        stays = held.stays;
        short = omega arith;
        are = held.taken told ∙ ap (λ r. c.bytes.line.items ++ r) (sym (c.in-Err.ensures.kept (held.told told)));
      },
      omega arith,
    ))
    (λ told. c.in-Err.ensures.keeps.told (held.told told)) (λ known. c.in-Err.ensures.knows_on (held.knows known))
    (rose_since _ _ _ held.calm c.in-Err.ensures.keeps.counted))

pub returns-clause-takes : goal.returns-clause-takes
returns-clause-takes g c =
    let held = c.bytes.invariant in
    rw c.from_wire-2.ensures (too_long_takes g.S.Source.tells g.S.Source.left g.S.Source.known g.S.Source.faults
    g.E.CodecError.of_wire _ _ g.met.E.CodecError.apart
    (λ told. line_is_too_long g.E.CodecError.of_wire c.bytes.line.items _ _ held.stays (omega arith) (held.taken told)) held.told held.knows
    held.calm)

pub returns-clause-cause : goal.returns-clause-cause
returns-clause-cause g c =
    rw c.from_wire-2.ensures (inr (inr (line_refused g.E.CodecError.of_wire c.bytes.line.items c.bytes.invariant.stays (omega arith))))

pub returns-clause-taken : goal.returns-clause-taken
returns-clause-taken g c = λ told other kept.
    let held = c.bytes.invariant in
    (line_is_too_long g.E.CodecError.of_wire c.bytes.line.items _ _ held.stays (omega arith) (held.taken told)).rest
