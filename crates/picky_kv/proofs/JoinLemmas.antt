-- A block is its counted lines joined, or its lines are too few.
use Rattle.std.proofs.Common.{◌≡◌, ◌↔◌, ℕ, zero, suc, ◌<◌, List, [], ◌∷◌, ◌++◌}
use Rattle.std.proofs.Common.{length, Some, None, refl}
use Rattle.std.proofs.Common.{sym}
use Rattle.std.proofs.Common.{ap, arith, inl, inr}
use Rattle.picky_kv.specs.Lines.{first_joined}
use Rattle.picky_kv.specs.Parts.{AreJoined}
use Rattle.picky_kv.proofs.ReadBackLemmas.{first_joined_lines}
use Rattle.picky_text.proofs.FrontLaws.{option_cases}
use Rattle.picky_kv.proofs.SeparatorLemmas.{some_of, some_parts}

pub joined_is : (count : ℕ) (lines : List (List ℕ)) (text : List ℕ) (after : List (List ℕ))
    → first_joined count lines ≡ Some (text, after) → AreJoined count lines text after
joined_is zero lines text after is =
    let ends = some_parts [] text lines after is in
    record { block = []; counted = refl; joined = sym ends.0; split = ends.1 }
joined_is (suc count) [] text after is = cc is
joined_is (suc count) (line ∷ lines) text after is =
    elim (option_cases (first_joined count lines)) [
      | inl some ↦
          let p = some.0 in
          let found = joined_is count lines p.0 p.1 some.1 in
          let cut : some_of (line ++ p.0) p.1 ≡ some_of text after = rw some.1 at is in
          let ends = some_parts (line ++ p.0) text p.1 after cut in
          let longer : length (line ∷ found.block) ≡ suc count = omega (arith, found.counted) in
          rw (← ends.0, ← ends.1) (record {
            block = line ∷ found.block;
            counted = longer;
            joined = ap (λ l. line ++ l) found.joined;
            split = ap (λ l. line ∷ l) found.split;
          })
      | inr none ↦ cc (rw none at is)
    ]

pub is_joined : (count : ℕ) (lines : List (List ℕ)) (text : List ℕ) (after : List (List ℕ))
    → AreJoined count lines text after → first_joined count lines ≡ Some (text, after)
is_joined count lines text after is =
    rw (is.split, ← is.counted, is.joined) (first_joined_lines is.block after)

pub first_joined_iff : (count : ℕ) (lines : List (List ℕ)) (text : List ℕ)
    (after : List (List ℕ))
    → first_joined count lines ≡ Some (text, after) ↔ AreJoined count lines text after
first_joined_iff count lines text after =
    (joined_is count lines text after, is_joined count lines text after)

too_few : (count : ℕ) (lines : List (List ℕ)) → first_joined count lines ≡ None
    → length lines < count
too_few zero lines none = cc none
too_few (suc count) [] none = omega arith
too_few (suc count) (line ∷ lines) none = elim (option_cases (first_joined count lines)) [
  | inl some ↦ cc (rw some.1 at none)
  | inr less ↦ omega (arith, too_few count lines less)
]

few_are_none : (count : ℕ) (lines : List (List ℕ)) → length lines < count
    → first_joined count lines ≡ None
few_are_none zero lines few = absurd (omega arith)
few_are_none (suc count) [] few = refl
few_are_none (suc count) (line ∷ lines) few = rw (few_are_none count lines (omega arith)) refl

pub first_joined_none_iff : (count : ℕ) (lines : List (List ℕ))
    → first_joined count lines ≡ None ↔ length lines < count
first_joined_none_iff count lines = (too_few count lines, few_are_none count lines)
