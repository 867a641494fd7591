-- What the bytes say: the four of the number, their end, and an end inside them.
use Rattle.std.proofs.Common.{sym, subst, Result, Err, Option, ℕ}
use Rattle.picky_agent.specs.declared.frame.FrameError.{FrameError}
use Rattle.picky_agent.specs.inner.Frame.{Lens}
use Rattle.picky_agent.proofs.FrameLemmas.{ends_here, first_missed, length_stands, read_stands, rest_missed, takes_less}
use Rattle.picky_agent.proofs.frame.take_number.Goals as goal

pub returns-in-Err-clause-lens : goal.returns-in-Err-clause-lens
returns-in-Err-clause-lens g c = λ told.
    let before = g.S.Source.left c.args.source.now in
    let after = g.S.Source.left c.fill.new.source in
    subst (λ (r : Result (Option ℕ) FrameError). Lens r before after) (sym c.first_missing.ensures)
    (first_missed c.in-Err.e before after (c.in-Err.ensures.takes.front told before (ends_here before)) (c.in-Err.ensures.cut told)
    (c.in-Err.ensures.takes.answers told))

pub returns-in-Err-fill-clause-lens : goal.returns-in-Err-fill-clause-lens
returns-in-Err-fill-clause-lens g c = λ told.
    let before = g.S.Source.left c.args.source.now in
    let mid = g.S.Source.left c.fill.new.source in
    let after = g.S.Source.left c.fill-2.new.source in
    subst (λ (e : FrameError). Lens (Err e) before after) (sym c.frame_error.ensures)
    (rest_missed c.in-Err-fill.e c.fill.new.buffer before mid after c.fill.auto.buffer
    (read_stands 1 before c.fill.new.buffer mid (c.in-Ok.ensures.takes.answers told))
    (takes_less 3 mid after (c.in-Err-fill.ensures.takes.front (c.in-Ok.ensures.takes.told told) mid (ends_here mid))
    (c.in-Err-fill.ensures.cut (c.in-Ok.ensures.takes.told told)))
    (c.in-Err-fill.ensures.takes.answers (c.in-Ok.ensures.takes.told told)))

pub returns-clause-lens : goal.returns-clause-lens
returns-clause-lens g c = λ told.
    let before = g.S.Source.left c.args.source.now in
    let mid = g.S.Source.left c.fill.new.source in
    let after = g.S.Source.left c.fill-2.new.source in
    let is = c.from_be_bytes.ensures in
    length_stands c.from_be_bytes.result c.fill.new.buffer c.fill-2.new.buffer before mid after c.fill.auto.buffer c.fill-2.auto.buffer
    is
    (g.met.S.Source.bytes c.args.source.now told)
    (read_stands 1 before c.fill.new.buffer mid (c.in-Ok.ensures.takes.answers told))
    (read_stands 3 mid c.fill-2.new.buffer after (c.in-Ok-fill.ensures.takes.answers (c.in-Ok.ensures.takes.told told)))
