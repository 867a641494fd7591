use Rattle.picky_wire_base.proofs.Narrowed.{both_read_when, both_refused_when}
use Rattle.picky_wire_base.proofs.laws.layouts_are_refused_at_one_field.Goals as goal

pub returns : goal.returns
returns g c =
    let l = g.L.TwoLayouts in
    record {
      read = both_read_when l.first l.second;
      refused = both_refused_when l.first l.second;
    }
