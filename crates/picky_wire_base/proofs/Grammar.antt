-- The laws of any grammar: one front, one value; where no piece stands in front, reading refuses.
use Rattle.std.specs.Prelude.{◌≡◌, List, ℕ, ◌++◌, Err}
use Rattle.std.proofs.Common.{sym, ◌∙◌, subst, ap}
use Rattle.std.proofs.lemmas.List.{append_cancel_right}
use Rattle.picky_wire_base.specs.carried.Outcome.{same_pair}
use Rattle.picky_wire_base.specs.Grammar.{Fits, Grammar, OneFront}

same_front : {A : Type 0} (v w : A) (a b x y : List ℕ)
    → a ++ x ≡ b ++ y → (v ≡ w) × (x ≡ y) → OneFront v w a b x y
same_front v w a b x y same (values, rests) =
    record {
      value = values;
      front = append_cancel_right a b y (subst (λ r. a ++ r ≡ b ++ y) rests same);
      rest = rests;
    }

-- No piece is a proper front of another, and one front spells one value.
pub one_front : {E A : Type 0} (G : Grammar E A) (v w : A) (a b x y : List ℕ)
    → G.piece v a → G.piece w b → a ++ x ≡ b ++ y → OneFront v w a b x y
one_front G v w a b x y spells_v spells_w same =
    let second = ap G.read same ∙ G.complete w b y spells_w in
    same_front v w a b x y same (same_pair (G.read (a ++ x)) v w x y (G.complete v a x spells_v) second)

-- Where reading refuses, no front is a piece.
pub refused_has_none : {E A : Type 0} (G : Grammar E A) (bytes : List ℕ) (e : E)
    → G.read bytes ≡ Err e → (v : A) (rest : List ℕ) → Fits G.piece v bytes rest → ⊥
refused_has_none G bytes e refused v rest (front, spells, same) =
    let found = sym refused ∙ ap G.read same ∙ G.complete v front rest spells in
    cc found
