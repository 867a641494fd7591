-- The laws of a row of pieces.
use Rattle.std.specs.Prelude.{List, [], ◌∷◌, ℕ, suc, flat_map, All}
use Rattle.std.proofs.Common.{refl, arith}
use Rattle.picky_wire_base.specs.Row.{Row}

-- Where each value has its spelling, so has the row.
pub row_spells : {A : Type 0} (piece : A → List ℕ → Type 0) (spelling : A → List ℕ)
    (takes : A → Type 0) → ((v : A) → takes v → piece v (spelling v))
    → (vs : List A) → All takes vs → Row piece vs (flat_map spelling vs)
row_spells piece spelling takes spells [] all = refl
row_spells piece spelling takes spells (v ∷ vs) all =
    let rest : All takes vs = λ k d below. all (suc k) d (omega arith) in
    let later = row_spells piece spelling takes spells vs rest in
    (spelling v, flat_map spelling vs, spells v (all 0 v (omega arith)), later, refl)
