-- Lemmas on what the source in memory gives.
use Rattle.std.proofs.Common.{◌≡◌, ℕ, ◌+◌, ◌-◌, List, ◌++◌, length, take, drop, sym, ap, ◌∙◌, arith}
use Rattle.std.proofs.lemmas.List.{take_at, take-append-drop, drop-drop}

-- what was copied to the buffer's front, and what comes after it, is what there was
pub front_and_rest : (content copied tail : List ℕ) (at n : ℕ)
    → copied ≡ take (at + n - at) (drop at content) → length copied ≡ n
    → drop at content ≡ take n (copied ++ tail) ++ drop (at + n) content
front_and_rest content copied tail at n is len =
    let same : at + n - at ≡ n = omega arith in
    let copied_is : copied ≡ take n (drop at content) = is ∙ ap (λ k. take k (drop at content)) same in
    sym (take-append-drop n (drop at content))
    ∙ ap (λ f. f ++ drop n (drop at content)) (sym copied_is)
    ∙ ap (λ r. copied ++ r) (drop-drop n at content)
    ∙ ap (λ f. f ++ drop (at + n) content) (sym (take_at copied tail n len))
