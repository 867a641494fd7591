use Rattle.picky_wire_base.proofs.Narrowed.{narrow_read_when, narrow_refused_when}
use Rattle.picky_wire_base.proofs.laws.narrowed_layouts_are_refused_at_one_place.Goals as goal

pub returns : goal.returns
returns g c =
    let l = g.L.NarrowedLayout in
    record {
      read = narrow_read_when l.field l.meaning;
      refused = narrow_refused_when l.field l.meaning;
    }
