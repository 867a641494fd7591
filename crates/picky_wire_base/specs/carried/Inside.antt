-- That the reading of a piece in front is sound and complete.
use Rattle.std.specs.Prelude.{◌≡◌, List, ℕ, Ok}
use Rattle.std.proofs.Common.{◌∙◌, ap, subst}
use Rattle.picky_wire_base.specs.Outcome.{and_then}
use Rattle.picky_wire_base.specs.carried.Outcome.{and_then_ok}
use Rattle.picky_wire_base.specs.Grammar.{Grammar, Fits}
use Rattle.picky_wire_base.specs.Front.{Begins, read_front}

pub front_sound : {E A : Type 0} (G : Grammar E A) (bytes : List ℕ) (v : A)
    → read_front G bytes ≡ Ok v → Begins G.piece bytes v
front_sound G bytes v same =
    let step = and_then_ok (G.read bytes) (λ first. Ok first.0) v same in
    let first : step.0.0 ≡ v = cc step.2 in (
      step.0.1,
      subst (λ w. Fits G.piece w bytes step.0.1) first
          (G.sound bytes step.0.0 step.0.1 step.1),
    )

pub front_complete : {E A : Type 0} (G : Grammar E A) (bytes : List ℕ) (v : A)
    → Begins G.piece bytes v → read_front G bytes ≡ Ok v
front_complete G bytes v (rest, (front, spells, same)) =
    ap (read_front G) same
    ∙ ap (λ r. and_then r (λ first. Ok first.0)) (G.complete v front rest spells)
