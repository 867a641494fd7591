-- The secret is drawn behind the point.
use Rattle.std.proofs.Common.{◌≡◌, ◌∙◌, ◌∷◌, ap, sym}
use Rattle.picky_wire_base.specs.Zeros.{without_zeros}
use Rattle.picky_convert.specs.Generator.{state_after, generated}
use Rattle.picky_convert.specs.SampleKeys.{drawn_key, sample_number, numbers_len, point, secret_len}
use Rattle.picky_convert.proofs.GeneratorLemmas.{after_none}
use Rattle.picky_convert.proofs.keys.ec.Goals as goal

pub returns : goal.returns
unfolding drawn_key
returns c =
    let s = c.args.source.state in
    let points = numbers_len c.args.curve in
    let secrets = secret_len c.args.curve in
    let public : c.in_ok-point.point ≡ point s points =
    c.in_ok-point.ensures.point ∙ ap (λ n. 4 ∷ generated n s) c.numbers_len.ensures.of_curve
    ∙ ap (λ t. 4 ∷ generated points t) (sym (after_none s)) in
    let secret : c.in_ok-secret.secret ≡ sample_number s points secrets =
    c.in_ok-secret.ensures.number ∙ ap (λ n. without_zeros (generated n c.point.new.source.state)) c.secret_len.ensures.of_curve
    ∙ ap (λ t. without_zeros (generated secrets t)) (c.in_ok-point.ensures.state ∙ ap (λ n. state_after n s) c.numbers_len.ensures.of_curve) in
    cc
