-- The next key's texts are fed and counted.
use Rattle.std.proofs.Common.{◌≡◌, ◌∙◌, ◌++◌, length, ap, sym, subst, refl, arith}
use Rattle.std.specs.List.{concat}
use Rattle.sha2.specs.Hashers.{Holds256}
use Rattle.picky_convert.specs.Sample.{texts_of}
use Rattle.picky_convert.specs.SampleTexts.{texts_at}
use Rattle.picky_convert.proofs.SampleLemmas.{count_more, joined_more}
use Rattle.picky_convert.proofs.summary.digest_texts.Goals as goal

pub keys-init : goal.keys-init
unfolding texts_of
keys-init g c = record { held = c.new-hasher.ensures; count = refl; few = omega arith; suite = refl }

pub keys-preserved : goal.keys-preserved
keys-preserved g c =
    let meanings = g.S.Suite.meanings in
    let m = meanings c.args.suite.now in
    let i = c.keys.number in
    let here = c.keys.invariant in
    let fed = c.in_ok-texts.ensures in
    let same : meanings c.keys.suite ≡ m = ap meanings here.suite in
    let count = fed.count ∙ ap (λ n. length (texts_at n i)) same in
    record {
      held = subst (Holds256 c.feed_texts.new.hasher)
          (ap (λ n. concat (texts_of m i) ++ concat (texts_at n i)) same ∙ sym (joined_more m i))
          (fed.fed (concat (texts_of m i)) here.held);
      count = omega (arith, here.count, count, count_more m i);
      few = omega (arith, here.few, fed.few);
      suite = c.feed_texts.ensures.suite ∙ here.suite;
    }
