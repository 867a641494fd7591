-- The bytes, or an end inside them.
use Rattle.std.proofs.Common.{◌++◌, ◌∙◌, ap, sym, subst, Err}
use Rattle.picky_wire_base.specs.Wire.{byte_array}
use Rattle.picky_agent.specs.declared.frame.FrameError.{FrameError}
use Rattle.picky_agent.specs.inner.Frame.{Bodies}
use Rattle.picky_agent.proofs.FrameLemmas.{body_missed, ends_here, read_stands}
use Rattle.picky_agent.proofs.frame.take_body.Goals as goal

pub returns-in-Ok-clause-bodies : goal.returns-in-Ok-clause-bodies
returns-in-Ok-clause-bodies g c = λ told.
    let before = g.S.Source.left c.args.source.now in
    let after = g.S.Source.left c.read_chunks.new.source in
    read_stands c.args.len before c.in-Ok.vec.items after (c.in-Ok.ensures.takes.answers told)
    ∙ ap (λ b. b ++ after) (sym c.from_vec.ensures)

pub returns-in-Err-clause-bodies : goal.returns-in-Err-clause-bodies
unfolding byte_array
returns-in-Err-clause-bodies g c = λ told.
    let before = g.S.Source.left c.args.source.now in
    let after = g.S.Source.left c.read_chunks.new.source in
    subst (λ (e : FrameError). Bodies c.args.len (Err e) before after) (sym c.frame_error.ensures)
    (body_missed c.in-Err.e c.args.len before after (c.in-Err.ensures.takes.front told before (ends_here before))
    (λ is. c.in-Err.ensures.takes.cut told (ap Err is)) (λ is. c.in-Err.ensures.room told (ap Err is))
    (c.in-Err.ensures.takes.answers told))
