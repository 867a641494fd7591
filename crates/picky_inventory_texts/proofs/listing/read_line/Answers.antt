-- Who reads without a passphrase asks no suite, so what is refused is the text.
use Rattle.picky_inventory_texts.proofs.ListingLemmas.{read_refuses}
use Rattle.picky_inventory_texts.proofs.listing.read_line.Goals as goal

pub returns-in-Err-clause-gives : goal.returns-in-Err-clause-gives
returns-in-Err-clause-gives c =
    read_refuses _ c.args.text.now c.in-Err.e _ c.new-suite.ensures.meanings c.in-Err.ensures.gives
