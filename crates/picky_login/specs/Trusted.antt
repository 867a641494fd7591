-- Each signature is good.
use Rattle.picky_policy.specs.Verifies.{VerifyRelation}

abbrev pub TrustsAll : VerifyRelation
TrustsAll key signature message = Unit {0}
