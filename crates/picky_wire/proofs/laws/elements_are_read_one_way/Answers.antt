-- An element, a list of them and one inside a string are read as layouts are.
use Rattle.picky_wire_base.specs.Inside.{sub}
use Rattle.picky_wire_base.specs.Many.{many}
use Rattle.picky_wire.specs.Flaws.{wire_error}
use Rattle.picky_wire_base.proofs.ReadingLaws.{layout_is_read, read_alike}
use Rattle.picky_wire.proofs.laws.elements_are_read_one_way.Goals as goal

pub returns : goal.returns
returns g c =
    let t = g.met.T.SshLayout in
    let G = g.T.SshLayout.layout in
    let of = g.T.Error.CodecError.of_wire in
    record {
      element = read_alike G g.T.SshComplexTypeDecode.reads t.reads_layout;
      list = layout_is_read (many (λ flaw. of (wire_error flaw)) G t.solid);
      inside = layout_is_read (sub (λ flaw. of (wire_error flaw)) G);
    }
