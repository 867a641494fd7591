-- No piece is a front of another.
use Rattle.std.specs.Prelude.{◌≡◌, List, ℕ, ◌++◌, ◌<◌, ◌^◌, length}
use Rattle.picky_wire_base.specs.Grammar.{Grammar}
use Rattle.picky_wire_base.proofs.Grammar.{one_front}
use Rattle.picky_wire_base.specs.Wire.{string, string_of}
use Rattle.picky_wire_base.proofs.Strings.{string_spells}
use Rattle.picky_wire_base.specs.When.{HasOneFront}

-- So it is in each layout.
pub layout_has_one_front : {E A : Type 0} (G : Grammar E A) → HasOneFront G.piece
layout_has_one_front G v w a b x y spells_v spells_w same =
    let one = one_front G v w a b x y spells_v spells_w same in (one.value, one.front)

-- The string in front of the same bytes is one.
pub one_string_in_front : (a b x y : List ℕ) → length a < 2 ^ 32 → length b < 2 ^ 32
    → string_of a ++ x ≡ string_of b ++ y → a ≡ b
one_string_in_front a b x y short_a short_b same =
    (one_front string a b (string_of a) (string_of b) x y (string_spells a short_a)
    (string_spells b short_b) same).value
