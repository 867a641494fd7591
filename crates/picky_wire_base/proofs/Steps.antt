-- A row that is read piece by piece, as a loop reads it.
use Rattle.std.specs.Prelude.{◌≡◌, List, [], ◌∷◌, ℕ, zero, suc, ◌++◌, ◌<◌, ◌≤◌, length, Result, Ok, Err}
use Rattle.std.proofs.Common.{sym, ◌∙◌, ap, refl, arith, append_assoc}
use Rattle.std.proofs.lemmas.List.{nil_from_length, append-nil}
use Rattle.picky_wire_base.specs.Outcome.{and_then}
use Rattle.picky_wire_base.specs.Grammar.{Grammar}
use Rattle.picky_wire_base.specs.Row.{Solid, after, read_within, read_all}
use Rattle.picky_wire_base.specs.carried.Row.{shorter}

within_nil : {E A : Type 0} (G : Grammar E A) (most : ℕ) → read_within G most [] ≡ Ok []
within_nil G zero = refl
within_nil G (suc most) = refl

same_next : {E A B : Type 0} (r : Result A E) (next next' : A → Result B E)
    → ((x : A) → r ≡ Ok x → next x ≡ next' x) → and_then r next ≡ and_then r next'
same_next (Ok x) next next' same = same x refl
same_next (Err e) next next' same = refl

-- More values than there are bytes make no difference.
within_same : {E A : Type 0} (G : Grammar E A) → Solid G.piece → (m n : ℕ) (bytes : List ℕ)
    → length bytes ≤ m → length bytes ≤ n → read_within G m bytes ≡ read_within G n bytes
within_same G solid m n [] few few' = within_nil G m ∙ sym (within_nil G n)
within_same G solid zero n (b ∷ bytes) few few' = absurd (omega arith)
within_same G solid (suc m) zero (b ∷ bytes) few few' = absurd (omega arith)
within_same G solid (suc m) (suc n) (b ∷ bytes) few few' =
    same_next (G.read (b ∷ bytes)) (λ first. after first.0 (read_within G m first.1))
    (λ first. after first.0 (read_within G n first.1)) λ first is.
    let fits = G.sound (b ∷ bytes) first.0 first.1 is in
    let fewer = shorter G solid (b ∷ bytes) first.1 first.0 fits in
    ap (after first.0) (within_same G solid m n first.1 (omega arith) (omega arith))

-- No bytes are a row of no values.
pub all_of_none : {E A : Type 0} (G : Grammar E A) → read_all G [] ≡ Ok []
unfolding read_all
all_of_none G = refl

-- Where a piece stands in front, its value comes first, and then the rest's.
pub all_of_more : {E A : Type 0} (G : Grammar E A) → Solid G.piece → (bytes : List ℕ) (v : A)
    (rest : List ℕ) → 0 < length bytes → G.read bytes ≡ Ok (v, rest)
    → read_all G bytes ≡ after v (read_all G rest)
unfolding read_all
all_of_more G solid [] v rest some is = absurd (omega arith)
all_of_more G solid (b ∷ bytes) v rest some is =
    let fits = G.sound (b ∷ bytes) v rest is in
    let fewer = shorter G solid (b ∷ bytes) rest v fits in
    let most = length bytes in
    let enough = within_same G solid most (length rest) rest (omega arith) (omega arith) in
    ap (λ r. and_then r (λ first. after first.0 (read_within G most first.1))) is
    ∙ ap (after v) enough

-- Where none stands there, its reason is the row's.
pub all_of_refused : {E A : Type 0} (G : Grammar E A) (bytes : List ℕ) (e : E)
    → 0 < length bytes → G.read bytes ≡ Err e → read_all G bytes ≡ Err e
unfolding read_all
all_of_refused G [] e some refused = absurd (omega arith)
all_of_refused G (b ∷ bytes) e some refused =
    ap (λ r. and_then r (λ first. after first.0 (read_within G (length bytes) first.1))) refused

-- ---- the invariant of a loop: the values taken so far, and then those of the rest

-- more values in front
abbrev pub following : {E A : Type 0} → List A → Result (List A) E → Result (List A) E
following taken r = and_then r (λ vs. Ok (taken ++ vs))

following_none : {E A : Type 0} (r : Result (List A) E) → r ≡ following [] r
following_none (Ok vs) = refl
following_none (Err e) = refl

following_more : {E A : Type 0} (taken : List A) (v : A) (r : Result (List A) E)
    → following taken (after v r) ≡ following (taken ++ v ∷ []) r
following_more taken v (Ok vs) = ap Ok (sym (append_assoc taken (v ∷ []) vs))
following_more taken v (Err e) = refl

-- A loop begins with no value taken.
pub taking_begins : {E A : Type 0} (G : Grammar E A) (bytes : List ℕ)
    → read_all G bytes ≡ following [] (read_all G bytes)
taking_begins G bytes = following_none (read_all G bytes)

-- Where a piece stands in front, its value is taken.
pub taking_more : {E A : Type 0} (G : Grammar E A) → Solid G.piece → (taken : List A)
    (bytes : List ℕ) (v : A) (rest : List ℕ) → 0 < length bytes → G.read bytes ≡ Ok (v, rest)
    → following taken (read_all G bytes) ≡ following (taken ++ v ∷ []) (read_all G rest)
taking_more G solid taken bytes v rest some is =
    ap (following taken) (all_of_more G solid bytes v rest some is)
    ∙ following_more taken v (read_all G rest)

-- Where no bytes are left, the values taken are all.
pub taking_ends : {E A : Type 0} (G : Grammar E A) (taken : List A) (bytes : List ℕ)
    → length bytes ≡ 0 → following taken (read_all G bytes) ≡ Ok taken
taking_ends G taken bytes empty =
    ap (λ b. following taken (read_all G b)) (nil_from_length bytes empty)
    ∙ ap (following taken) (all_of_none G) ∙ ap Ok (append-nil taken)

-- Where no piece stands in front, its reason is the row's.
pub taking_refused : {E A : Type 0} (G : Grammar E A) (taken : List A) (bytes : List ℕ) (e : E)
    → 0 < length bytes → G.read bytes ≡ Err e → following taken (read_all G bytes) ≡ Err e
taking_refused G taken bytes e some refused =
    ap (following taken) (all_of_refused G bytes e some refused)
