-- What was taken so far, and the next piece.
use Rattle.std.proofs.Common.{◌++◌, ◌∙◌, sym, ap, arith, length}
use Rattle.std.proofs.lemmas.List.{length-append}
use Rattle.picky_wire_base.proofs.ReadLemmas.{tail_len, tail_filled}
use Rattle.picky_wire.proofs.ByteArrayLemmas.{byte_array_read, byte_array_unmade, more_takes, piece_taken_by}
use Rattle.picky_wire.proofs.read.read_chunks.Goals as goal

pub returns-in-Err-clause-takes : goal.returns-in-Err-clause-takes
returns-in-Err-clause-takes g c =
    byte_array_unmade g.S.Source.tells g.S.Source.left g.S.Source.known g.S.Source.faults c.args.len
    c.args.source.now c.chunks.source
    (λ told. (c.chunks.taken.items, c.chunks.invariant.taken told, omega arith))
    (record { told = c.chunks.invariant.told; knows = c.chunks.invariant.knows }) c.chunks.invariant.calm

pub returns-in-Err-clause-room : goal.returns-in-Err-clause-room
returns-in-Err-clause-room g c = λ told is.
    omega (arith, ap length (c.chunks.invariant.taken told), length-append c.chunks.taken.items (g.S.Source.left c.chunks.source), c.chunks-test.true)

pub returns-in-Err-fill-clause-takes : goal.returns-in-Err-fill-clause-takes
returns-in-Err-fill-clause-takes g c =
    more_takes g.S.Source.tells g.S.Source.left g.S.Source.known g.S.Source.faults _ c.args.len c.chunks.taken.items c.in-Err-fill.e
    c.args.source.now c.chunks.source c.fill.new.source
    (omega (arith, tail_len c.len-at.result c.deref_mut.result.now, c.deref_mut.ensures.len, c.in-Ok.ensures.len))
    c.chunks.invariant.taken
    (record { told = c.chunks.invariant.told; knows = c.chunks.invariant.knows }) c.chunks.invariant.calm c.in-Err-fill.ensures.takes

pub chunks-preserved : goal.chunks-preserved
chunks-preserved g c =
    let piece = tail_len c.len-at.result c.deref_mut.result.now in
    record {
      within = omega (arith, c.in-Ok.ensures.len);
      taken = λ told.
          piece_taken_by _ c.chunks.taken.items _ _ c.fill.new.buffer _ (c.chunks.invariant.taken told) (c.in-Ok-fill.ensures.takes.answers (c.chunks.invariant.told told))
          ∙ ap (λ f. f ++ g.S.Source.left c.fill.new.source)
          (sym (tail_filled c.append_zeros.new.vec.len c.len-at.result c.chunks.taken.items _ c.deref_mut.result.now c.fill.new.buffer _ _
          (c.deref_mut.ensures.value ∙ c.in-Ok.ensures.items) (omega arith)
          (omega (arith, piece, c.fill.auto.buffer, c.deref_mut.ensures.len, c.in-Ok.ensures.len))));
      told = λ told. c.in-Ok-fill.ensures.takes.told (c.chunks.invariant.told told);
      knows = λ known. c.in-Ok-fill.ensures.takes.knows (c.chunks.invariant.knows known);
      calm = c.in-Ok-fill.ensures.takes.calm ∙ c.chunks.invariant.calm;
    }

pub returns-clause-takes : goal.returns-clause-takes
returns-clause-takes g c =
    byte_array_read g.S.Source.tells g.S.Source.left g.S.Source.known g.S.Source.faults c.args.len c.chunks.taken.items
    c.args.source.now c.chunks.source (omega arith) c.chunks.invariant.taken
    (record { told = c.chunks.invariant.told; knows = c.chunks.invariant.knows }) c.chunks.invariant.calm
