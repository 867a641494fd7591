-- The messages are what is signed of the bytes.
use Rattle.picky_policy.proofs.OfferLaws.{offers_bind}
use Rattle.picky_policy.proofs.laws.message_binds_what_is_said.Goals as goal

pub returns : goal.returns
returns c = offers_bind
