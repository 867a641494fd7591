-- The law of two messages.
use Rattle.picky_ppk.proofs.AcceptedLaws.{two_messages}
use Rattle.picky_ppk.proofs.laws.accepted_texts_with_one_mac_have_two_messages.Goals as goal

pub returns : goal.returns
returns c = two_messages
