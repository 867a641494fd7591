-- Each number is drawn behind those before it.
use Rattle.std.proofs.Common.{◌≡◌, ◌∙◌, ap, sym}
use Rattle.picky_wire_base.specs.Zeros.{without_zeros}
use Rattle.picky_convert.specs.Generator.{state_after, generated}
use Rattle.picky_convert.specs.SampleKeys.{drawn_key, sample_number}
use Rattle.picky_convert.proofs.GeneratorLemmas.{after_both, after_none}
use Rattle.picky_convert.proofs.keys.rsa.Goals as goal

pub returns : goal.returns
unfolding drawn_key
returns c =
    let s = c.args.source.state in
    let at_d = c.in_ok-n.ensures.state in
    let at_iqmp = c.in_ok-d.ensures.state ∙ ap (state_after 256) at_d ∙ after_both 256 256 s in
    let at_p = c.in_ok-iqmp.ensures.state ∙ ap (state_after 128) at_iqmp ∙ after_both 512 128 s in
    let at_q = c.in_ok-p.ensures.state ∙ ap (state_after 128) at_p ∙ after_both 640 128 s in
    let n : c.in_ok-n.n ≡ sample_number s 0 256 = c.in_ok-n.ensures.number ∙ ap (λ t. without_zeros (generated 256 t)) (sym (after_none s)) in
    let d : c.in_ok-d.d ≡ sample_number s 256 256 = c.in_ok-d.ensures.number ∙ ap (λ t. without_zeros (generated 256 t)) at_d in
    let iqmp : c.in_ok-iqmp.iqmp ≡ sample_number s 512 128 = c.in_ok-iqmp.ensures.number ∙ ap (λ t. without_zeros (generated 128 t)) at_iqmp in
    let p : c.in_ok-p.p ≡ sample_number s 640 128 = c.in_ok-p.ensures.number ∙ ap (λ t. without_zeros (generated 128 t)) at_p in
    let q : c.in_ok-q.q ≡ sample_number s 768 128 = c.in_ok-q.ensures.number ∙ ap (λ t. without_zeros (generated 128 t)) at_q in
    let e = c.in_ok-e.ensures in
    cc
