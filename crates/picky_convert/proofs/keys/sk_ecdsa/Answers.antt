-- The handle is drawn behind the point.
use Rattle.std.proofs.Common.{◌≡◌, ◌∙◌, ◌∷◌, ap, sym}
use Rattle.picky_convert.specs.Generator.{state_after, generated}
use Rattle.picky_convert.specs.SampleKeys.{drawn_key}
use Rattle.picky_convert.proofs.GeneratorLemmas.{after_none}
use Rattle.picky_convert.proofs.keys.sk_ecdsa.Goals as goal

pub returns : goal.returns
unfolding drawn_key
returns c =
    let s = c.args.source.state in
    let point : c.in_ok-point.point ≡ 4 ∷ generated 64 (state_after 0 s) =
    c.in_ok-point.ensures.point ∙ ap (λ n. 4 ∷ generated 64 n) (sym (after_none s)) in
    let handle : c.in_ok-handle.handle ≡ generated 64 (state_after 64 s) = c.in_ok-handle.ensures.bytes ∙ ap (generated 64) c.in_ok-point.ensures.state in
    let application = c.in_ok-application.ensures in
    cc
