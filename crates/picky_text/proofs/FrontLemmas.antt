-- A text that is written piece by piece.
use Rattle.std.proofs.Common.{◌≡◌, ℕ, ◌≤◌, List, [], ◌∷◌, ◌++◌, length, take, refl, sym, ◌∙◌, ap}
use Rattle.std.proofs.Common.{arith, OnErr}
use Rattle.std.proofs.lemmas.List.{append_assoc, append-nil, length-append, take_at}
use Rattle.std.specs.declared.result.Result.{Result}
use Rattle.std.specs.declared.result.Result.TheVariants.{Ok, Err}

-- from old on, all is to be appended; now is there, and left is still to come
pub record IsWriting (old now left all : List ℕ) : Type 0 where
  pub grown : length old ≤ length now
  pub same : now ++ left ≡ old ++ all

-- one more piece was written
pub writing_more : {old now left all : List ℕ} (piece more next : List ℕ)
    → IsWriting old now left all
    → left ≡ piece ++ more → next ≡ now ++ piece → IsWriting old next more all
writing_more {now} {left} piece more next writing left_is next_is = record {
  grown = omega (arith, writing.grown, ap length next_is, length-append now piece);
  same =
      ap (λ l. l ++ more) next_is ∙ append_assoc now piece more ∙ ap (λ l. now ++ l) (sym left_is)
      ∙ writing.same;
}

-- a piece could not be written
pub writing_stays : {old now left all : List ℕ} (next : List ℕ) → IsWriting old now left all
    → next ≡ now
    → IsWriting old next left all
writing_stays {left} next writing same = record {
  grown = omega (arith, writing.grown, ap length same);
  same = ap (λ l. l ++ left) same ∙ writing.same;
}

-- nothing is left
pub writing_ends : {old now all : List ℕ} → IsWriting old now [] all → now ≡ old ++ all
writing_ends {now} writing = sym (append-nil now) ∙ writing.same

front_of : (old now left all : List ℕ) → length old ≤ length now → now ++ left ≡ old ++ all
    → (n : ℕ) × (now ≡ old ++ take n all)
front_of [] now left all grown same =
    (length now, sym (take_at now left (length now) refl) ∙ ap (take (length now)) same)
front_of (o ∷ old) [] left all grown same = absurd (omega arith)
front_of (o ∷ old) (n ∷ now) left all grown same =
    let tails : now ++ left ≡ old ++ all = cc same in
    let head : n ≡ o = cc same in
    let more = front_of old now left all (omega arith) tails in
    (more.0, cc (more.1, head))

-- what was written, wherever the writing ends, is a front of all
pub writing_failed : {T E : Type 0} {old now left all : List ℕ} (answer : Result T E)
    → IsWriting old now left all → OnErr answer ((n : ℕ) × (now ≡ old ++ take n all))
writing_failed (Ok x) writing = tt
writing_failed {old} {now} {left} {all} (Err e) writing =
    front_of old now left all writing.grown writing.same

-- so is what was written of all, whatever is left
pub front_is_written : {T E : Type 0} {now all : List ℕ} (answer : Result T E) (old written left : List ℕ)
    → now ≡ old ++ written → all ≡ written ++ left → OnErr answer ((n : ℕ) × (now ≡ old ++ take n all))
front_is_written {now} {all} answer old written left is cut =
    writing_failed {left = left} answer (record {
      grown = omega (arith, ap length is, length-append old written);
      same = ap (λ l. l ++ left) is ∙ append_assoc old written left ∙ ap (λ l. old ++ l) (sym cut);
    })
