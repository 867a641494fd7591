-- What is spelled is read, whatever follows.
use Rattle.std.proofs.Common.{◌∙◌}
use Rattle.std.specs.List.{flat_map}
use Rattle.std.specs.Prelude.{◌≡◌, None}
use Rattle.picky_wire_base.proofs.Many.{many_reads_back}
use Rattle.picky_wire.proofs.ListLemmas.{spellings_are_row}
use Rattle.picky_wire.proofs.laws.elements_are_read_back.Goals as goal

pub returns : goal.returns
returns g c =
    let t = g.met.T.SshLayout in
    let e = g.met.T.SshElement in
    let spelling = g.T.SshComplexTypeEncode.spelling in
    let G = g.T.SshLayout.layout in
    record {
      element = λ v rest keeps takes.
          t.reads_layout _ ∙ G.complete v (spelling v) rest (e.spelled v keeps takes);
      list = λ vs rest keep take short cut.
          many_reads_back cut G t.solid vs (flat_map spelling vs) rest
          (spellings_are_row G.piece spelling g.T.SshComplexTypeEncode.keeps (λ v. g.T.SshComplexTypeEncode.write_reason v ≡ None) e.spelled vs keep take)
          short;
    }
