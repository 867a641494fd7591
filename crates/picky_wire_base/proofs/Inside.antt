-- The laws of a layout inside a string.
use Rattle.std.specs.Prelude.{◌≡◌, List, [], ℕ, ◌++◌, ◌<◌, ◌^◌, length, Ok}
use Rattle.std.proofs.Common.{sym, ◌∙◌, ap, subst, refl}
use Rattle.std.proofs.lemmas.List.{append-nil}
use Rattle.picky_wire_base.specs.Flaw.{Flaw}
use Rattle.picky_wire_base.specs.Grammar.{Grammar}
use Rattle.picky_wire_base.specs.Wire.{string_of}
use Rattle.picky_wire_base.specs.Numbers.{IsBytes}
use Rattle.picky_wire_base.proofs.Strings.{string_spells, string_exact}
use Rattle.picky_wire_base.specs.Inside.{sub, IsSubPiece}

-- The string of a piece is a piece, also where more bytes follow inside.
pub sub_spells : {E A : Type 0} (cut : Flaw → E) (G : Grammar E A) (v : A)
    (front rest : List ℕ) → G.piece v front → length (front ++ rest) < 2 ^ 32
    → (sub cut G).piece v (string_of (front ++ rest))
sub_spells cut G v front rest spells short =
    (front ++ rest, string_spells (front ++ rest) short, (rest, (front, spells, refl)))

-- The string of a piece is read back whatever follows.
pub sub_reads_back : {E A : Type 0} (cut : Flaw → E) (G : Grammar E A) (v : A)
    (front rest : List ℕ) → G.piece v front → length front < 2 ^ 32
    → (sub cut G).read (string_of front ++ rest) ≡ Ok (v, rest)
sub_reads_back cut G v front rest spells short =
    (sub cut G).complete v (string_of front) rest (
      front,
      string_spells front short,
      ([], (front, spells, sym (append-nil front))),
    )

-- Nothing else is a piece.
pub sub_exact : {E A : Type 0} (cut : Flaw → E) (G : Grammar E A) (v : A) (bytes : List ℕ)
    → IsBytes bytes → (sub cut G).piece v bytes → IsSubPiece G.piece v bytes
sub_exact cut G v bytes each (block, spells, (rest, (front, inner, same))) =
    let exact = string_exact block bytes each spells in
    record {
      front = front;
      rest = rest;
      spells = inner;
      are = exact.0 ∙ ap string_of same;
      short = subst (λ b. length b < 2 ^ 32) same exact.1;
    }
