use Rattle.picky_wire_base.proofs.When.{mpint_is_short, mpint_is_big, mpint_only, mpint_within_is_not_big}
use Rattle.picky_wire_base.proofs.laws.mpints_are_refused_exactly.Goals as goal

pub returns : goal.returns
returns c = record {
  short = mpint_is_short;
  big = mpint_is_big;
  only = mpint_only;
  not_big = mpint_within_is_not_big;
}
