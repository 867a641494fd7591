use Rattle.std.proofs.Common.{subst, sym}
use Rattle.picky_wire_base.specs.Wire.{string, string_of, text}
use Rattle.picky_wire_base.proofs.Strings.{string_spells, string_exact, text_spells, text_exact}
use Rattle.picky_wire_base.proofs.laws.string_pieces_are_the_standards.Goals as goal

pub returns : goal.returns
unfolding string_of
returns c = record {
  string = λ v bytes each. (
    λ piece. string_exact v bytes each piece,
    λ (is, short). subst (λ b. string.piece v b) (sym is) (string_spells v short),
  );
  text = λ v bytes each. (
    λ piece. text_exact v bytes each piece,
    λ (is, short, utf8). subst (λ b. text.piece v b) (sym is) (text_spells v short utf8),
  );
}
