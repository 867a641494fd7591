-- The default is the one value.
use Rattle.picky_kv_words.proofs.word.AnyPpkSingle.single.Goals as goal

pub returns : goal.returns
returns g c = g.T.PpkWord.word.only _
