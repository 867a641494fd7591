-- A footer ends the body, another line joins it, and without a footer there is none.
use Rattle.std.proofs.Common.{sym, ◌∙◌}
use Rattle.picky_kv.specs.Joined.{joined_text}
use Rattle.picky_ppk_file.specs.PuttyPublic.{putty_footer}
use Rattle.picky_ppk_file.proofs.BodyLemmas.{body_ends, body_goes_on, body_lacks}
use Rattle.picky_ppk_file.proofs.putty_public.body.Goals as goal

pub returns-then-eq-clause-some : goal.returns-then-eq-clause-some
unfolding putty_footer
returns-then-eq-clause-some c =
    let so_far = joined_text c.lines.body in
    body_ends so_far c.in-Some.line.now _ c.lines.lines c.args.lines.now c.lines.invariant c.in-Some.ensures.line
    (sym c.eq.ensures ∙ c.if-eq.true)

pub lines-preserved : goal.lines-preserved
unfolding putty_footer
lines-preserved c =
    let so_far = joined_text c.lines.body in
    body_goes_on so_far c.in-Some.line.now _ _ c.lines.lines c.args.lines.now c.lines.invariant c.in-Some.ensures.line
    (sym c.eq.ensures ∙ c.if-eq.false) c.in_ok-push.ensures.behind

pub returns-clause-none : goal.returns-clause-none
returns-clause-none c =
    body_lacks (joined_text c.lines.body) c.lines.lines c.args.lines.now c.lines.invariant c.in_default.ensures.none.0
