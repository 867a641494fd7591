-- What a text says is what it is.
use Rattle.picky_policy.proofs.OfferLaws.{offer_is, offer_says}
use Rattle.picky_policy.proofs.laws.text_is_one_offer.Goals as goal

pub returns : goal.returns
returns c = λ text offer each. (offer_says text offer each, offer_is text offer)
