-- Names are those between the commas.
use Rattle.picky_request.proofs.NameLaws.{principals_are_once}
use Rattle.picky_request.proofs.laws.principals_are_named_once.Goals as goal

pub returns : goal.returns
returns c = principals_are_once
