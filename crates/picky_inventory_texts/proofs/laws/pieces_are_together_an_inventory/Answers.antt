-- Piece by piece.
use Rattle.picky_inventory_texts.proofs.PieceLemmas.{pieces_are_cut, pieces_are_inventory}
use Rattle.picky_inventory_texts.proofs.laws.pieces_are_together_an_inventory.Goals as goal

pub returns : goal.returns
returns c = record { exactly = pieces_are_inventory; cut = pieces_are_cut }
