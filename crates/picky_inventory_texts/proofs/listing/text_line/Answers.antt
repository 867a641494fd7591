-- What is read is no encrypted text.
use Rattle.picky_inventory_texts.proofs.ListingLemmas.{line_is_listed}
use Rattle.picky_inventory_texts.proofs.listing.text_line.Goals as goal

pub returns-in-Ok : goal.returns-in-Ok
returns-in-Ok c =
    line_is_listed c.args.sealed c.args.text.now c.in-Ok.line.items c.in-Ok.ensures.means c.in-Ok.ensures.gives
