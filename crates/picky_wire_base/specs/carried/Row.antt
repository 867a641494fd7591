-- That the reading of a row is sound and complete.
use Rattle.std.specs.Prelude.{◌≡◌, List, [], ◌∷◌, ℕ, zero, suc, ◌<◌, ◌≤◌, length, Ok}
use Rattle.std.proofs.Common.{◌∙◌, ap, subst, refl, arith}
use Rattle.std.proofs.lemmas.List.{length-append, nil_from_length}
use Rattle.picky_wire_base.specs.Outcome.{and_then}
use Rattle.picky_wire_base.specs.carried.Outcome.{and_then_ok}
use Rattle.picky_wire_base.specs.Grammar.{Grammar, Fits}
use Rattle.picky_wire_base.specs.Row.{Solid, Row, after, read_within, read_all}

-- What follows a piece in front is shorter.
pub shorter : {E A : Type 0} (G : Grammar E A) → Solid G.piece → (bytes rest : List ℕ) (v : A)
    → Fits G.piece v bytes rest → length rest < length bytes
shorter G solid bytes rest v (front, spells, same) =
    let some = solid v front spells in
    omega (arith, ap length same, length-append front rest)

within_sound : {E A : Type 0} (G : Grammar E A) → Solid G.piece → (most : ℕ) (bytes : List ℕ)
    (vs : List A) → length bytes ≤ most → read_within G most bytes ≡ Ok vs → Row G.piece vs bytes
within_sound G solid zero bytes vs few same =
    let none : [] ≡ vs = cc same in
    subst (λ ws. Row G.piece ws bytes) none (nil_from_length bytes (omega arith))
within_sound G solid (suc most) [] vs few same =
    let none : [] ≡ vs = cc same in
    subst (λ ws. Row G.piece ws []) none refl
within_sound G solid (suc most) (b ∷ bytes) vs few same =
    let step = and_then_ok (G.read (b ∷ bytes))
    (λ first. after first.0 (read_within G most first.1)) vs same in
    let more = and_then_ok (read_within G most step.0.1) (λ ws. Ok (step.0.0 ∷ ws)) vs step.2 in
    let fits = G.sound (b ∷ bytes) step.0.0 step.0.1 step.1 in
    let fewer = shorter G solid (b ∷ bytes) step.0.1 step.0.0 fits in
    let later = within_sound G solid most step.0.1 more.0 (omega arith) more.1 in
    let all : step.0.0 ∷ more.0 ≡ vs = cc more.2 in
    subst (λ ws. Row G.piece ws (b ∷ bytes)) all (fits.0, step.0.1, fits.1, later, fits.2)

within_complete : {E A : Type 0} (G : Grammar E A) → Solid G.piece → (most : ℕ) (bytes : List ℕ)
    (vs : List A) → length bytes ≤ most → Row G.piece vs bytes → read_within G most bytes ≡ Ok vs
within_complete G solid zero bytes [] few row = refl
within_complete G solid zero bytes (v ∷ vs) few (x, y, spells, row, same) =
    let fewer = shorter G solid bytes y v (x, spells, same) in absurd (omega arith)
within_complete G solid (suc most) [] [] few row = refl
within_complete G solid (suc most) [] (v ∷ vs) few (x, y, spells, row, same) =
    let fewer = shorter G solid [] y v (x, spells, same) in absurd (omega arith)
within_complete G solid (suc most) (b ∷ bytes) [] few row = cc row
within_complete G solid (suc most) (b ∷ bytes) (v ∷ vs) few (x, y, spells, row, same) =
    let fewer = shorter G solid (b ∷ bytes) y v (x, spells, same) in
    let later = within_complete G solid most y vs (omega arith) row in
    ap (λ r. and_then r (λ first. after first.0 (read_within G most first.1)))
    (ap G.read same ∙ G.complete v x y spells)
    ∙ ap (after v) later

-- What is read is a row.
pub row_sound : {E A : Type 0} (G : Grammar E A) → Solid G.piece → (bytes : List ℕ) (vs : List A)
    → read_all G bytes ≡ Ok vs → Row G.piece vs bytes
unfolding read_all
row_sound G solid bytes vs same = within_sound G solid (length bytes) bytes vs (omega arith) same

-- A row is what is read.
pub row_complete : {E A : Type 0} (G : Grammar E A) → Solid G.piece → (bytes : List ℕ) (vs : List A)
    → Row G.piece vs bytes → read_all G bytes ≡ Ok vs
unfolding read_all
row_complete G solid bytes vs row =
    within_complete G solid (length bytes) bytes vs (omega arith) row
