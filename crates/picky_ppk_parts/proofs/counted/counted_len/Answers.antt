-- Each string is taken where the one before ends.
use Rattle.std.proofs.Common.{◌+◌, ◌-◌, sym, ◌∙◌, arith}
use Rattle.picky_ppk_parts.proofs.CountedLemmas.{end_begins, end_goes_on, end_stops, end_refused}
use Rattle.picky_ppk_parts.proofs.counted.counted_len.Goals as goal

pub strings-init : goal.strings-init
strings-init c =
    let count = c.key_mpint_values_count-end.result in
    let begins = end_begins count (count - 0) c.args.algorithm c.args.private.now c.key_mpint_values_count-end.ensures in
    (begins (omega arith), omega arith)

pub returns-in-Err-clause-exact : goal.returns-in-Err-clause-exact
returns-in-Err-clause-exact c =
    let left = c.key_mpint_values_count-end.result - c.strings.counter in
    let more = c.key_mpint_values_count-end.result - (c.strings.counter + 1) in
    sym (end_refused left more c.strings.place c.args.private.now c.in-Err.field-0 (omega arith) c.in-Err.ensures)
    ∙ c.strings.invariant.0

pub strings-preserved : goal.strings-preserved
strings-preserved c =
    let left = c.key_mpint_values_count-end.result - c.strings.counter in
    let more = c.key_mpint_values_count-end.result - (c.strings.counter + 1) in
    let taken = c.in-Ok.field-0-0.bytes.now in
    let next = c.in-Ok.next in (
      sym (end_goes_on left more c.strings.place next taken c.args.private.now (omega arith) c.in-Ok.ensures.sees)
          ∙ c.strings.invariant.0,
      c.in-Ok.ensures.placed.2,
    )

pub returns-clause-exact : goal.returns-clause-exact
returns-clause-exact c =
    let left = c.key_mpint_values_count-end.result - c.strings.counter in
    sym (end_stops left c.strings.place c.args.private.now (omega arith) c.strings.invariant.1) ∙ c.strings.invariant.0
