-- What was written at the front of 48 zeros.
use Rattle.picky_c.proofs.NameLemmas.{joined_is}
use Rattle.picky_c.proofs.name.joined.Goals as goal

pub returns : goal.returns
returns c =
    joined_is c.args.path.now c.args.name.now c.copy_from_slice.new.self c.copy_from_slice-2.new.self
    c.split_at_mut-front.result.1.now c.split_at_mut-front-2.result.1.now (cc) (cc)
    c.split_at_mut-front.ensures.back c.split_at_mut-front-2.ensures.back
