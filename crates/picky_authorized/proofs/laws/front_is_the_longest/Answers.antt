-- The front that is scanned is the longest.
use Rattle.picky_authorized.proofs.QuoteLaws.{front_is_longest}
use Rattle.picky_authorized.proofs.laws.front_is_the_longest.Goals as goal

pub returns : goal.returns
returns c = front_is_longest
