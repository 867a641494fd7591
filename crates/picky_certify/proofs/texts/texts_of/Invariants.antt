-- The texts so far, with those of the words that are left, are those of all of the words.
use Rattle.std.proofs.Common.{◌≡◌, drop}
use Rattle.std.specs.Prelude.{map}
use Rattle.picky_certify.specs.Texts.{words_judged}
use Rattle.picky_certify.proofs.WordLemmas.{behind}
use Rattle.picky_certify.proofs.texts.texts_of.Given as goal

abbrev pub invariant-words : goal.invariant-words
invariant-words l =
    behind l.texts.items (words_judged (map (λ word. word.now) (drop l.word-index l.words)))
    ≡ words_judged (map (λ word. word.now) l.words)
