use Rattle.std.proofs.Common.{subst, sym}
use Rattle.picky_wire_base.specs.Mpint.{mpint}
use Rattle.picky_wire_base.proofs.MpintLaws.{mpint_exact, mpint_spells, mpint_spells_with, mpint_of_high, mpint_of_low}
use Rattle.picky_wire_base.proofs.laws.mpint_pieces_are_the_standards.Goals as goal

pub returns : goal.returns
returns c = record {
  pieces = λ v bytes each. (
    λ piece. mpint_exact v bytes each piece,
    λ is. subst (λ b. mpint.piece v b) (sym is.are) (mpint_spells_with is.zeros v is.mpint is.short),
  );
  canonical = mpint_spells;
  high = mpint_of_high;
  low = mpint_of_low;
}
