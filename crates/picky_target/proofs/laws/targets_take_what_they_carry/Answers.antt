use Rattle.picky_target.proofs.JudgedLaws.{judged_carries, carried_is_judged, refused_place}
use Rattle.picky_target.proofs.laws.targets_take_what_they_carry.Goals as goal

pub returns-clause-carries : goal.returns-clause-carries
returns-clause-carries c = judged_carries

pub returns-clause-takes : goal.returns-clause-takes
returns-clause-takes c = carried_is_judged

pub returns-clause-refuses : goal.returns-clause-refuses
returns-clause-refuses c = refused_place
