-- One more key's texts.
use Rattle.std.proofs.Common.{◌≡◌, ◌∙◌, ◌+◌, ℕ, suc, ◌++◌, length, ap, arith}
use Rattle.std.proofs.lemmas.List.{length-append}
use Rattle.std.proofs.lemmas.List.Folds.{concat-append}
use Rattle.std.specs.List.{concat}
use Rattle.picky_suite.specs.Meanings.{Meanings}
use Rattle.picky_convert.specs.Sample.{texts_of}
use Rattle.picky_convert.specs.SampleTexts.{texts_at}

texts_more : (m : Meanings) (i : ℕ) → texts_of m (i + 1) ≡ texts_of m i ++ texts_at m i
unfolding texts_of
texts_more m i = let more : i + 1 ≡ suc i = omega arith in ap (texts_of m) more

pub joined_more : (m : Meanings) (i : ℕ) → concat (texts_of m (i + 1)) ≡ concat (texts_of m i) ++ concat (texts_at m i)
joined_more m i = ap concat (texts_more m i) ∙ concat-append (texts_of m i) (texts_at m i)

pub count_more : (m : Meanings) (i : ℕ) → length (texts_of m (i + 1)) ≡ length (texts_of m i) + length (texts_at m i)
count_more m i = ap length (texts_more m i) ∙ length-append (texts_of m i) (texts_at m i)
