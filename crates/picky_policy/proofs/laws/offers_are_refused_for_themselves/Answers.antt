use Rattle.picky_policy.proofs.OfferOwnLaws.{certificate_offer_is_own, key_offer_is_own, offer_tells_of_none}
use Rattle.picky_policy.proofs.laws.offers_are_refused_for_themselves.Goals as goal

pub returns-clause-device : goal.returns-clause-device
returns-clause-device c = offer_tells_of_none

pub returns-clause-key : goal.returns-clause-key
returns-clause-key c = key_offer_is_own

pub returns-clause-certificate : goal.returns-clause-certificate
returns-clause-certificate c = certificate_offer_is_own
