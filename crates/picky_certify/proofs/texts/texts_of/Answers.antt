-- The words are taken one after another.
use Rattle.std.proofs.Common.{List, arith, ℕ}
use denote.Ref.{Bor}
use Rattle.picky_certify.proofs.WordLemmas.{next_refused, next_taken, none_left}
use Rattle.picky_certify.proofs.texts.texts_of.Goals as goal

pub returns-in-Err : goal.returns-in-Err
returns-in-Err c =
    next_refused (λ (word : Bor (List ℕ)). word.now) c.args.words.now c.words.word-index _ c.in-Err.e c.words.texts.items _
    c.words-test.true c.in-Err.ensures c.words.invariant

pub words-preserved : goal.words-preserved
words-preserved c =
    next_taken (λ (word : Bor (List ℕ)). word.now) c.args.words.now c.words.word-index _ c.in-Ok.text c.words.texts.items
    c.push.new.self.items _ c.words-test.true c.in-Ok.ensures c.in-Ok-push.ensures.items c.words.invariant

pub returns : goal.returns
returns c =
    none_left (λ (word : Bor (List ℕ)). word.now) c.args.words.now c.words.word-index c.words.texts.items _ (omega arith) c.words.invariant
