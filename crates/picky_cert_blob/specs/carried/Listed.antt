-- That a string takes its bytes where nothing inside it is refused, and that a refusal gives no value.
use Rattle.std.specs.Prelude.{◌≡◌, List, ℕ, ◌+◌, length, Result, Ok, Err}
use Rattle.std.proofs.Common.{◌∙◌, ap, sym}
use Rattle.picky_wire_base.specs.Flaw.{Flaw}
use Rattle.picky_wire_base.specs.Inside.{inside}
use Rattle.picky_wire_base.specs.Narrowed.{Narrowing, meant}
use Rattle.picky_wire_base.specs.Outcome.{map_err}
use Rattle.picky_wire_base.specs.carried.Outcome.{and_then_ok, map_err_ok}
use Rattle.picky_wire_base.specs.Wire.{string}
use Rattle.picky_cert_blob.specs.Used.{up_to, up_to_inside, used_inside}

pub inside_takes : {E A : Type 0} (cut : Flaw → E) (M : Narrowing E (List ℕ) A) (used : List ℕ → ℕ)
    (bytes : List ℕ) (v : A) (rest : List ℕ) → (inside cut M).read bytes ≡ Ok (v, rest)
    → length bytes ≡ used_inside M.decide used bytes + length rest
inside_takes cut M used bytes v rest same =
    let step = and_then_ok (map_err cut (string.read bytes)) (meant M) (v, rest) same in
    let whole = map_err_ok cut (string.read bytes) step.0 step.1 in
    let decided = and_then_ok (M.decide step.0.0) (λ b. Ok (b, step.0.1)) (v, rest) step.2 in
    let ends : used_inside M.decide used bytes ≡ string.used bytes =
    ap (up_to_inside M.decide used (string.used bytes)) whole
    ∙ ap (λ r. up_to r (string.used bytes) (4 + used step.0.0)) decided.1 in
    (inside cut M).takes bytes v rest same ∙ ap (λ n. n + length rest) (sym ends)

-- What is refused gives no value.
pub refused_gives_none : {E A : Type 0} (r : Result (A × List ℕ) E) (why : E) (v : A) (rest : List ℕ) → r ≡ Err why
    → r ≡ Ok (v, rest) → ⊥
refused_gives_none r why v rest is same = cc (sym is ∙ same)
