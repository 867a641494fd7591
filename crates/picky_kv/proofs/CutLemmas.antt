-- The first colon and space of a line, by its place.
use Rattle.std.proofs.Common.{◌≡◌, ◌≢◌, ℕ, zero, suc, ◌<◌, ◌≤◌, ◌==◌, ◌&&◌, List, [], ◌∷◌}
use Rattle.std.proofs.Common.{take, drop, length, refl, arith, inl, inr, Some, None, Option}
use Rattle.std.proofs.Common.{Bor}
use Rattle.std.specs.Prelude.{MatchOption, IfNone, IfSome}
use Rattle.std.specs.Str.Pattern.{FindsText, SplitsAroundMatch}
use Rattle.std.proofs.lemmas.Bool.{cases_Bool, and_parts, eqb-true}
use Rattle.picky_kv.specs.Lines.{key_and_value}

-- no colon and space stands at this place
abbrev pub Lacks : List ℕ → ℕ → Type 0
Lacks line i = (rest : List ℕ) → drop i line ≢ 58 ∷ 32 ∷ rest

-- a line in which none stands is not cut
pub key_and_value_none : (line : List ℕ) → ((i : ℕ) → i ≤ length line → Lacks line i)
    → key_and_value line ≡ None
key_and_value_none [] lacks = refl
key_and_value_none (a ∷ []) lacks = refl
key_and_value_none (a ∷ b ∷ text) lacks = elim (cases_Bool (a == 58 && b == 32)) [
  | inl here ↦
      let parts = and_parts (a == 58) (b == 32) here in
      let colon : a ≡ 58 = eqb-true a 58 parts.0 in
      let space : b ≡ 32 = eqb-true b 32 parts.1 in
      let same : a ∷ b ∷ text ≡ 58 ∷ 32 ∷ text = cc in
      absurd (lacks 0 (omega arith) text same)
  | inr other ↦
      let more = key_and_value_none (b ∷ text)
      (λ i within. lacks (suc i) (omega (arith, within))) in
      rw (other, more) refl
]

-- and one is cut where the first stands
pub key_and_value_some : (i : ℕ) (line rest : List ℕ) → ((k : ℕ) → k < i → Lacks line k)
    → drop i line ≡ 58 ∷ 32 ∷ rest → key_and_value line ≡ Some (take i line, rest)
key_and_value_some zero [] rest lacks here = cc here
key_and_value_some zero (a ∷ []) rest lacks here = cc here
key_and_value_some zero (a ∷ b ∷ text) rest lacks here =
    let colon : a ≡ 58 = cc here in
    let space : b ≡ 32 = cc here in
    let same : text ≡ rest = cc here in
    rw (colon, space, same) refl
key_and_value_some (suc i) [] rest lacks here = cc here
key_and_value_some (suc zero) (a ∷ []) rest lacks here = cc here
key_and_value_some (suc (suc i)) (a ∷ []) rest lacks here = cc here
key_and_value_some (suc i) (a ∷ b ∷ text) rest lacks here = elim (cases_Bool (a == 58 && b == 32)) [
  | inl early ↦
      let parts = and_parts (a == 58) (b == 32) early in
      let colon : a ≡ 58 = eqb-true a 58 parts.0 in
      let space : b ≡ 32 = eqb-true b 32 parts.1 in
      let same : a ∷ b ∷ text ≡ 58 ∷ 32 ∷ text = cc in
      absurd (lacks 0 (omega arith) text same)
  | inr other ↦
      let more = key_and_value_some i (b ∷ text) rest
      (λ k below. lacks (suc k) (omega (arith, below))) here in
      rw (other, more) refl
]

-- so a line is cut as std's search splits it
pub cut_as_found : (line : List ℕ) (found : Option (Bor (List ℕ) × Bor (List ℕ)))
    → MatchOption found (FindsText (58 ∷ 32 ∷ []) line None)
    (λ x. SplitsAroundMatch (FindsText (58 ∷ 32 ∷ [])) line x.0.now x.1.now)
    → IfNone found (key_and_value line ≡ None)
    × IfSome found (λ p. key_and_value line ≡ Some (p.0.now, p.1.now))
cut_as_found line None cases = (key_and_value_none line cases, tt)
cut_as_found line (Some x) cases = (
  tt,
  rw (cases.3, cases.4) (key_and_value_some cases.0 line (drop cases.1 line) cases.2.0
      cases.2.1.split),
)
