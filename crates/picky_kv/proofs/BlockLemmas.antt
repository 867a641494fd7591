-- The lines of a block, taken one by one.
use Rattle.std.proofs.Common.{◌≡◌, ℕ, suc, ◌+◌, ◌-◌, ◌<◌, List, [], ◌∷◌, ◌++◌, refl, sym}
use Rattle.std.proofs.Common.{◌∙◌, arith, Some, None, Option}
use Rattle.std.proofs.lemmas.List.{append_assoc}
use Rattle.picky_kv.specs.Lines.{first_joined, prefixed}

-- nothing in front
pub prefixed_nil : {B : Type 0} (found : Option (List ℕ × B)) → prefixed [] found ≡ found
prefixed_nil (Some p) = refl
prefixed_nil None = refl

-- two texts in front, one after the other
pub prefixed_twice : {B : Type 0} (front more : List ℕ) (found : Option (List ℕ × B))
    → prefixed front (prefixed more found) ≡ prefixed (front ++ more) found
prefixed_twice front more (Some p) =
    let joined : front ++ (more ++ p.0) ≡ (front ++ more) ++ p.0 =
    sym (append_assoc front more p.0) in
    rw joined refl
prefixed_twice front more None = refl

-- what was joined and what is left make the whole
abbrev pub IsUnderWay : ℕ → ℕ → List (List ℕ) → List ℕ → List (List ℕ) → Type 0
IsUnderWay count taken all text left =
    prefixed text (first_joined (count - taken) left) ≡ first_joined count all

-- one line more
pub one_line_more : (count taken : ℕ) (all : List (List ℕ)) (text line : List ℕ)
    (left : List (List ℕ))
    → taken < count → IsUnderWay count taken all text (line ∷ left)
    → IsUnderWay count (taken + 1) all (text ++ line) left
one_line_more count taken all text line left more way =
    let step : count - taken ≡ suc (count - (taken + 1)) = omega arith in
    sym (prefixed_twice text line (first_joined (count - (taken + 1)) left))
    ∙ (rw step at way)
