-- No spelling of an element, of a list or of an element in a string is a front of another.
use Rattle.picky_wire_base.specs.Inside.{sub}
use Rattle.picky_wire_base.specs.Many.{many}
use Rattle.picky_wire_base.proofs.Fronts.{layout_has_one_front}
use Rattle.picky_wire.specs.Flaws.{wire_error}
use Rattle.picky_wire.proofs.laws.no_piece_is_a_front_of_another.Goals as goal

pub returns : goal.returns
returns g c =
    let t = g.met.T.SshLayout in
    let G = g.T.SshLayout.layout in
    let of = g.T.Error.CodecError.of_wire in
    record {
      element = layout_has_one_front G;
      list = layout_has_one_front (many (λ flaw. of (wire_error flaw)) G t.solid);
      inside = layout_has_one_front (sub (λ flaw. of (wire_error flaw)) G);
    }
