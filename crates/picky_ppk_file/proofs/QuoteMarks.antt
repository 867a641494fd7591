-- Where a text's first and last quote stand.
use Rattle.std.proofs.Common.{◌≡◌, ◌≢◌, ◌+◌, ◌-◌, ℕ, suc, List, [], ◌∷◌, ◌++◌, length, get_or, take, true}
use Rattle.std.proofs.Common.{false, not, refl, sym, ap, ◌∙◌, arith, inl, inr}
use Rattle.std.proofs.Math.Bool.{or-true}
use Rattle.std.specs.List.{AllByRecursion, list_any, before_last, suffix_len}
use Rattle.std.proofs.lemmas.Bool.{cases_Bool, eq-eqb, ne_eqb, eqb-true}
use Rattle.std.proofs.lemmas.List.{get_or-append-add, length-append, take_at}
use Rattle.std.proofs.lemmas.List.Elements.{All-from_recursion}
use Rattle.std.proofs.lemmas.List.Folds.{list_any-append, list_any_none}
use Rattle.std.proofs.lemmas.List.Sums.{suffix_len_is}
use Rattle.picky_text.specs.Lines.{HasNo}
use Rattle.picky_text.proofs.ListLaws.{all_weaker}
use Rattle.picky_keys.proofs.ByteLaws.{no_by_test}
use Rattle.picky_ppk_file.specs.PuttyRefusal.{is_quote}

-- what the test of a quote answers

pub fail_test : (bytes : List ℕ) → HasNo 34 bytes → AllByRecursion (λ c. is_quote c ≡ false) bytes
fail_test bytes none =
    all_weaker (λ c. c ≢ 34) (λ c. is_quote c ≡ false) (λ c other. ne_eqb c 34 other) bytes none

pub no_quote : (bytes : List ℕ) → HasNo 34 bytes → list_any is_quote bytes ≡ false
no_quote bytes none = list_any_none is_quote bytes (All-from_recursion _ bytes (fail_test bytes none))

pub has_quote : (front rest : List ℕ) → list_any is_quote (front ++ 34 ∷ rest) ≡ true
has_quote front rest = list_any-append is_quote front (34 ∷ rest) ∙ or-true (list_any is_quote front)

-- a text that has a quote, at its first one
pub record HasFirst (text : List ℕ) : Type 0 where
  pub before : List ℕ
  pub rest : List ℕ
  pub is : text ≡ before ++ 34 ∷ rest
  pub none : HasNo 34 before

pub first_quote : (text : List ℕ) → list_any is_quote text ≡ true → HasFirst text
first_quote [] found = cc found
first_quote (c ∷ text) found = elim (cases_Bool (is_quote c)) [
  | inl same ↦ record { before = []; rest = text; is = ap (λ b. b ∷ text) (eqb-true c 34 same); none = tt }
  | inr other ↦
      let more = first_quote text (rw other at found) in
      record {
        before = c ∷ more.before;
        rest = more.rest;
        is = ap (λ l. c ∷ l) more.is;
        none = (λ same. cc (other, eq-eqb c 34 same), more.none);
      }
]

-- and at its last one
pub record HasLast (text : List ℕ) : Type 0 where
  pub between : List ℕ
  pub after : List ℕ
  pub is : text ≡ between ++ 34 ∷ after
  pub none : HasNo 34 after

pub last_quote : (text : List ℕ) → list_any is_quote text ≡ true → HasLast text
last_quote [] found = cc found
last_quote (c ∷ text) found = elim (cases_Bool (list_any is_quote text)) [
  | inl later ↦
      let more = last_quote text later in
      record { between = c ∷ more.between; after = more.after; is = ap (λ l. c ∷ l) more.is; none = more.none }
  | inr none ↦ elim (cases_Bool (is_quote c)) [
    | inl same ↦ record {
      between = [];
      after = text;
      is = ap (λ b. b ∷ text) (eqb-true c 34 same);
      none = no_by_test 34 text none;
    }
    | inr other ↦ let nowhere : false ≡ true = rw (other, none) at found in cc nowhere
  ]
]

-- what stands before the last quote
pub before_last_quote : (between after : List ℕ) → HasNo 34 after → before_last is_quote (between ++ 34 ∷ after) ≡ between
before_last_quote between after none =
    let text : List ℕ = between ++ 34 ∷ after in
    let n : ℕ = length between + 1 in
    let len = length-append between (34 ∷ after) in
    let others = All-from_recursion _ after (fail_test after none) in
    let tail = suffix_len_is (λ c. not (is_quote c)) text n 0 (omega (arith, len)) (λ k past inside.
    let place : length between + suc (k - n) ≡ k = omega arith in
    let there = get_or-append-add between (34 ∷ after) (suc (k - n)) 0 in
    let byte : get_or text k 0 ≡ get_or after (k - n) 0 = ap (λ i. get_or text i 0) (sym place) ∙ there in
    ap (λ b. not (is_quote b)) byte ∙ ap not (others (k - n) 0 (omega (arith, len)))) (λ some.
    let place : length between + 0 ≡ n - 1 = omega arith in
    let there = get_or-append-add between (34 ∷ after) 0 0 in
    ap (λ i. not (is_quote (get_or text i 0))) (sym place) ∙ ap (λ b. not (is_quote b)) there) in
    let count : length text - suffix_len (λ c. not (is_quote c)) text - 1 ≡ length between = omega (arith, tail, len) in
    ap (λ k. take k text) count ∙ take_at between (34 ∷ after) (length between) refl
