-- Why a table's answer is refused.
use Rattle.std.proofs.Common.{◌≡◌, ◌∙◌, ℕ, Bool, true, false, List, length, refl, ap}
use Rattle.std.specs.Prelude.{◌&&◌, ◌==◌, ◌≢◌, if◌then◌else◌, Option, None, Some, Ok, Err}
use Rattle.std.specs.Cmp.{unsigned_Decides}
use Rattle.std.proofs.lemmas.Slice.Eq.{bytes_eq-Decides}
use Rattle.picky_ask.specs.declared.lookup.Mode.{Mode}
use Rattle.picky_ask.specs.declared.missing.Missing.TheVariants as missings
use Rattle.picky_ask.specs.declared.question.Question.{Question}
use Rattle.picky_ask.specs.declared.question.Entry.{Entry}
use Rattle.picky_ask.specs.Lookup.{answer_to, are_paired, derivation, exchange, first_side, is_side, judged, of_len, paired}
use Rattle.picky_ask.specs.carried.Tests.{both_true, both_ways}

wrong_test : (b : Bool) (x : List ℕ) → (if b then Ok x else Err missings.WrongLength) ≡ Err missings.WrongLength → b ≡ false
wrong_test true x is = cc is
wrong_test false x is = refl

wrong_of : (q : Question) (n : ℕ) (o : Option (List ℕ)) → judged q (of_len n) o ≡ Err missings.WrongLength
    → (a : List ℕ) × (o ≡ Some a) × (length a ≢ n)
wrong_of q n None is = cc is
wrong_of q n (Some a) is =
    (a, refl, λ same. both_ways (length a == n) ((unsigned_Decides (length a) n).1 same) (wrong_test (length a == n) a is))

-- an answer of another length
pub derivation_wrong : (q : Question) (n : ℕ) (entries : List Entry) → derivation q n entries ≡ Err missings.WrongLength
    → (a : List ℕ) × (answer_to q entries ≡ Some a) × (length a ≢ n)
derivation_wrong q n entries is = wrong_of q n (answer_to q entries) is

clash_test : (b c : Bool) (x : List ℕ)
    → (if b then (if c then Ok x else Err missings.Contradiction) else Err missings.WrongLength) ≡ Err missings.Contradiction
    → c ≡ false
clash_test true true x is = cc is
clash_test true false x is = refl
clash_test false c x is = cc is

side_there : (o : Option (List ℕ)) (x : List ℕ) → o ≡ Some x → is_side o x ≡ true
side_there o x is = ap (λ s. is_side s x) is ∙ (bytes_eq-Decides x x).1 refl

clash_of : (mode : Mode) (key iv : List ℕ) (q : Question) (entries : List Entry) (o : Option (List ℕ))
    → judged q (paired mode key iv q.text entries) o ≡ Err missings.Contradiction
    → (a : List ℕ) × (o ≡ Some a)
    × (first_side mode key iv q.text entries ≡ Some a → first_side mode key iv a entries ≡ Some q.text → ⊥)
unfolding paired are_paired
clash_of mode key iv q entries None is = cc is
clash_of mode key iv q entries (Some a) is =
    let one = is_side (first_side mode key iv q.text entries) a in
    let other = is_side (first_side mode key iv a entries) q.text in (
      a,
      refl,
      λ there back. both_ways (one && other)
          (both_true one other (side_there (first_side mode key iv q.text entries) a there) (side_there (first_side mode key iv a entries) q.text back))
          (clash_test (length a == length q.text) (one && other) a is),
    )

-- an answer with which an earlier pair of the cipher disagrees
pub exchange_clash : (mode : Mode) (key iv : List ℕ) (q : Question) (entries : List Entry)
    → exchange mode key iv q entries ≡ Err missings.Contradiction
    → (a : List ℕ) × (answer_to q entries ≡ Some a)
    × (first_side mode key iv q.text entries ≡ Some a → first_side mode key iv a entries ≡ Some q.text → ⊥)
exchange_clash mode key iv q entries is = clash_of mode key iv q entries (answer_to q entries) is
