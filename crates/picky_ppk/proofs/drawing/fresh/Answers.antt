-- The salt and then the padding.
use Rattle.std.proofs.Common.{◌∙◌, ap}
use Rattle.picky_ppk.specs.Fresh.{salt_len}
use Rattle.picky_ppk.proofs.FreshLemmas.{fresh_is}
use Rattle.picky_ppk.proofs.drawing.fresh.Goals as goal

pub returns-clause-drawn : goal.returns-clause-drawn
returns-clause-drawn g c =
    fresh_is c.args.config c.args.ppk.now _ _ (g.R.Rng.stream c.args.rng.now) (g.R.Rng.stream c.drawn.new.rng) _ _ _
    (c.salt_len.ensures.len ∙ ap (λ v. salt_len v c.args.config) c.version.ensures) c.in_ok-salt.ensures.bytes
    c.padding_len.ensures.len c.in_ok-padding.ensures.bytes
