-- The handle is drawn behind the key.
use Rattle.std.proofs.Common.{◌≡◌, ◌∙◌, ap, sym}
use Rattle.picky_convert.specs.Generator.{state_after, generated}
use Rattle.picky_convert.specs.SampleKeys.{drawn_key}
use Rattle.picky_convert.proofs.GeneratorLemmas.{after_none}
use Rattle.picky_convert.proofs.keys.sk_ed.Goals as goal

pub returns : goal.returns
unfolding drawn_key
returns c =
    let s = c.args.source.state in
    let key : c.array-key.result ≡ generated 32 (state_after 0 s) = c.array-key.ensures.bytes ∙ ap (generated 32) (sym (after_none s)) in
    let handle : c.in_ok-handle.handle ≡ generated 64 (state_after 32 s) = c.in_ok-handle.ensures.bytes ∙ ap (generated 64) c.array-key.ensures.state in
    let application = c.in_ok-application.ensures in
    cc
