-- The first line that is refused behind a line that is given, found line by line.
use Rattle.std.proofs.Common.{◌≡◌, ◌+◌, ◌-◌, ◌<◌, ◌≤◌, ◌&&◌, ◌∙◌, ℕ, suc, Bool, true, false, List, [], ◌∷◌, ◌++◌, length, map, take, drop}
use Rattle.std.proofs.Common.{Option, Some, None, get_or, refl, sym, ap, arith, drop-cons, take-append-drop}
use Rattle.std.proofs.Common.{inl, inr}
use Rattle.std.proofs.lemmas.Bool.{cases_Bool}
use Rattle.std.proofs.lemmas.List.{length-map, length-take, map-append, map_more}
use Rattle.picky_inventory.specs.OrderedText.{first_bad, follows, last_before}

-- what follows lines that aren't refused decides
pub first_bad_behind : (is_item : List ℕ → Bool) (n : ℕ) (before : Option (List ℕ)) (front rest : List (List ℕ))
    → first_bad is_item n before front ≡ None
    → first_bad is_item n before (front ++ rest) ≡ first_bad is_item (n + length front) (last_before before front) rest
first_bad_behind is_item n before [] rest good =
    let at : n ≡ n + 0 = omega arith in
    ap (λ k. first_bad is_item k before rest) at
first_bad_behind is_item n before (line ∷ front) rest good = elim (cases_Bool (is_item line && follows before line)) [
  | inl fine ↦
      let at : n + 1 + length front ≡ n + length (line ∷ front) = omega arith in
      rw fine (first_bad_behind is_item (n + 1) (Some line) front rest (rw fine at good)
      ∙ ap (λ k. first_bad is_item k (last_before (Some line) front) rest) at)
  | inr bad ↦ cc (rw bad at good)
]

last_is : (before : Option (List ℕ)) (front : List (List ℕ)) (line : List ℕ)
    → last_before before (front ++ line ∷ []) ≡ Some line
last_is before [] line = refl
last_is before (x ∷ front) line = last_is (Some x) front line

-- ---- the line at a place

module _ {A : Type 0} (see : A → List ℕ) (before : Option (List ℕ)) (lines : List A) (i : ℕ) (d : A) (below : i < length lines)
  where
    long : length (map see (take i lines)) ≡ i
    long = omega (arith, below, length-map (take i lines) see, length-take i lines)

    line_at : map see lines ≡ map see (take i lines) ++ see (get_or lines i d) ∷ map see (drop (suc i) lines)
    line_at =
        ap (map see) (sym (take-append-drop i lines)) ∙ map-append see (take i lines) (drop i lines)
        ∙ ap (λ l. map see (take i lines) ++ map see l) (drop-cons lines i d below)

    -- it is refused
    pub bad_here : (is_item : List ℕ → Bool) (n : ℕ) → first_bad is_item n before (map see (take i lines)) ≡ None
        → (is_item (see (get_or lines i d)) && follows (last_before before (map see (take i lines))) (see (get_or lines i d)))
        ≡ false
        → Some (n + i) ≡ first_bad is_item n before (map see lines)
    bad_here is_item n good bad =
        let front : List (List ℕ) = map see (take i lines) in
        let line : List ℕ = see (get_or lines i d) in
        let rest : List (List ℕ) = map see (drop (suc i) lines) in
        let stops : first_bad is_item (n + length front) (last_before before front) (line ∷ rest) ≡ Some (n + length front) =
        rw bad refl in
        ap (λ k. Some (n + k)) (sym long)
        ∙ sym (ap (first_bad is_item n before) line_at ∙ first_bad_behind is_item n before front (line ∷ rest) good ∙ stops)

    -- or it isn't
    pub good_here : (is_item : List ℕ → Bool) (n : ℕ) → first_bad is_item n before (map see (take i lines)) ≡ None
        → (is_item (see (get_or lines i d)) && follows (last_before before (map see (take i lines))) (see (get_or lines i d)))
        ≡ true
        → first_bad is_item n before (map see (take (i + 1) lines)) ≡ None
    good_here is_item n good fine =
        let front : List (List ℕ) = map see (take i lines) in
        let line : List ℕ = see (get_or lines i d) in
        let goes_on : first_bad is_item (n + length front) (last_before before front) (line ∷ []) ≡ None = rw fine refl in
        ap (first_bad is_item n before) (map_more see lines i d below)
        ∙ first_bad_behind is_item n before front (line ∷ []) good ∙ goes_on

    before_next : last_before before (map see (take (i + 1) lines)) ≡ Some (see (get_or lines i d))
    before_next =
        ap (last_before before) (map_more see lines i d below)
        ∙ last_is before (map see (take i lines)) (see (get_or lines i d))

-- the line before a place
pub before_place : {A : Type 0} → (see : A → List ℕ) (before : Option (List ℕ)) (lines : List A) (i : ℕ) (d : A) → 0 < i
    → i ≤ length lines → Some (see (get_or lines (i - 1) d)) ≡ last_before before (map see (take i lines))
before_place see before lines i d some short =
    let at : i - 1 + 1 ≡ i = omega (arith, some) in
    sym (before_next see before lines (i - 1) d (omega (arith, some, short)))
    ∙ ap (λ k. last_before before (map see (take k lines))) at
