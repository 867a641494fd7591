-- What holds of each element of a list, and of its parts.
use Rattle.std.proofs.Common.{◌≡◌, ℕ, zero, suc, ◌+◌, Bool, true, false, List, [], ◌∷◌, ◌++◌, replicate}
use Rattle.std.proofs.Common.{length, slice_index, refl, ap, arith, inl, inr}
use Rattle.std.proofs.lemmas.Bool.{cases_Bool}
use Rattle.std.specs.List.{AllByRecursion, before_first, after_first, list_any, position_or_len}

-- two lists
pub all_append : {X : Type 0} (P : X → Type 0) (xs ys : List X) → AllByRecursion P xs
    → AllByRecursion P ys → AllByRecursion P (xs ++ ys)
all_append P [] ys left right = right
all_append P (x ∷ xs) ys left right = (left.0, all_append P xs ys left.1 right)

-- the front of a list
pub all_front : {X : Type 0} (P : X → Type 0) (xs ys : List X) → AllByRecursion P (xs ++ ys)
    → AllByRecursion P xs
all_front P [] ys all = tt
all_front P (x ∷ xs) ys all = (all.0, all_front P xs ys all.1)

-- its back
pub all_back : {X : Type 0} (P : X → Type 0) (xs ys : List X) → AllByRecursion P (xs ++ ys)
    → AllByRecursion P ys
all_back P [] ys all = all
all_back P (x ∷ xs) ys all = all_back P xs ys all.1

-- what follows from it
pub all_weaker : {X : Type 0} (P Q : X → Type 0) → ((x : X) → P x → Q x) → (xs : List X)
    → AllByRecursion P xs → AllByRecursion Q xs
all_weaker P Q weaker [] all = tt
all_weaker P Q weaker (x ∷ xs) all = (weaker x all.0, all_weaker P Q weaker xs all.1)

-- one element, repeated
pub all_replicate : {X : Type 0} (P : X → Type 0) (n : ℕ) (x : X) → P x
    → AllByRecursion P (replicate n x)
all_replicate P zero x holds = tt
all_replicate P (suc n) x holds = (holds, all_replicate P n x holds)

-- none of what stands before the first element that passes does
pub none_before_first : (ends : ℕ → Bool) (text : List ℕ)
    → AllByRecursion (λ b. ends b ≡ false) (before_first ends text)
none_before_first ends [] = tt
none_before_first ends (b ∷ text) = elim (cases_Bool (ends b)) [
  | inl passes ↦ rw passes tt
  | inr fails ↦
      let next : 1 + position_or_len ends text ≡ suc (position_or_len ends text) = omega arith in
      rw (fails, next) (fails, none_before_first ends text)
]

-- a list is cut at its first element that passes
pub record IsCut (ends : ℕ → Bool) (text front : List ℕ) (b : ℕ) (rest : List ℕ) : Type 0 where
  pub before : before_first ends text ≡ front
  pub after : after_first ends text ≡ rest
  pub at : slice_index text (position_or_len ends text) ≡ b

-- a front in which none passes, an element that does, and the rest
pub cut_at_first : (ends : ℕ → Bool) (front : List ℕ) (b : ℕ) (rest : List ℕ)
    → AllByRecursion (λ c. ends c ≡ false) front → ends b ≡ true
    → IsCut ends (front ++ b ∷ rest) front b rest
cut_at_first ends [] b rest none passes =
    record { before = rw passes refl; after = rw passes refl; at = rw passes refl }
cut_at_first ends (c ∷ front) b rest none passes =
    let n : ℕ = position_or_len ends (front ++ b ∷ rest) in
    let more = cut_at_first ends front b rest none.1 passes in
    let next : 1 + n ≡ suc n = omega arith in
    let past : suc n + 1 ≡ suc (n + 1) = omega arith in
    record {
      before = rw (none.0, next) (ap (λ l. c ∷ l) more.before);
      after = rw (none.0, next, past) more.after;
      at = rw (none.0, next) more.at;
    }

-- a list in which none passes is not cut
pub uncut : (ends : ℕ → Bool) (line : List ℕ) → AllByRecursion (λ b. ends b ≡ false) line
    → (before_first ends line ≡ line) × (after_first ends line ≡ [])
uncut ends [] none = (refl, refl)
uncut ends (b ∷ line) none =
    let n : ℕ = position_or_len ends line in
    let more = uncut ends line none.1 in
    let next : 1 + n ≡ suc n = omega arith in
    let past : suc n + 1 ≡ suc (n + 1) = omega arith in
    (rw (none.0, next) (ap (λ l. b ∷ l) more.0), rw (none.0, next, past) more.1)

-- where the first place that passes is the end, none passes
pub none_passes : (p : ℕ → Bool) (xs : List ℕ) → position_or_len p xs ≡ length xs → list_any p xs ≡ false
none_passes p [] ends = refl
none_passes p (x ∷ xs) ends = elim (cases_Bool (p x)) [
  | inl passes ↦
      let first : 0 ≡ length (x ∷ xs) = rw passes at ends in
      absurd (omega (arith, first))
  | inr fails ↦
      let later = rw fails at ends in
      let rest : position_or_len p xs ≡ length xs = omega (arith, later) in
      rw fails (none_passes p xs rest)
]
