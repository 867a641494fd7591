-- The public key is drawn behind the secret.
use Rattle.std.proofs.Common.{◌≡◌, ◌∙◌, ap, sym}
use Rattle.picky_convert.specs.Generator.{state_after, generated}
use Rattle.picky_convert.specs.SampleKeys.{drawn_key}
use Rattle.picky_convert.proofs.GeneratorLemmas.{after_none}
use Rattle.picky_convert.proofs.keys.ed.Goals as goal

pub returns : goal.returns
unfolding drawn_key
returns c =
    let s = c.args.source.state in
    let secret : c.array-secret.result ≡ generated 32 (state_after 0 s) = c.array-secret.ensures.bytes ∙ ap (generated 32) (sym (after_none s)) in
    let public : c.array-public.result ≡ generated 32 (state_after 32 s) = c.array-public.ensures.bytes ∙ ap (generated 32) c.array-secret.ensures.state in
    cc
