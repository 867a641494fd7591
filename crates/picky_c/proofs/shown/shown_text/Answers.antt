-- What the text shows, and why it shows nothing, said of the bytes.
use Rattle.picky_c.proofs.ShownLemmas.{text_is_shown}
use Rattle.picky_c.proofs.shown.shown_text.Goals as goal

pub returns-in-Ok-clause-means : goal.returns-in-Ok-clause-means
returns-in-Ok-clause-means c =
    text_is_shown _ c.args.text.now c.in-Some.text.now c.in-Ok.shown c.new-suite.ensures.meanings c.in-Some.ensures.0 c.in-Some.ensures.1
    c.in-Ok.ensures.gives
