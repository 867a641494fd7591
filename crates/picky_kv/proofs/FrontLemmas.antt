-- What is taken of a text, behind the base64 of the bytes so far.
use Rattle.std.proofs.Common.{◌≡◌, ◌≢◌, ◌<◌, ◌≤◌, ◌+◌, ◌-◌, ◌%◌, ◌^◌, ◌==◌, ◌&&◌, ◌⊎◌, not, ℕ, suc, Bool, true, false}
use Rattle.std.proofs.Common.{List, [], ◌∷◌, ◌++◌, length, take, drop, slice_index, refl, sym, ap, ◌∙◌, arith, inl, inr}
use Rattle.std.proofs.Common.{None}
use Rattle.std.specs.Prelude.{nat_lt, if◌then◌else◌, Result, Ok, Err}
use Rattle.std.proofs.lemmas.Bool.{cases_lt, cases_eq, eq-eqb, ne_eqb}
use Rattle.std.proofs.lemmas.Bool.Decides.{nat_tests}
use Rattle.std.proofs.lemmas.List.{length-append, length-take-le, append-nil}
use Rattle.std.proofs.lemmas.List.{nil_from_length}
use Rattle.picky_text.proofs.FrontLaws.{option_cases}
use Rattle.picky_wire_base.specs.Numbers.{IsBytes}
use Rattle.picky_wire_base.specs.Outcome.{map_ok}
use Rattle.picky_text.specs.Base64.{base64_of, decoded}
use Rattle.picky_text.proofs.Base64Laws.{base64_is_read_back, base64_is_of_what_it_gives, decoded_is_bytes}
use Rattle.picky_kv.specs.declared.block_error.BlockError.{BlockError}
use Rattle.picky_kv.specs.declared.block_error.BlockError.TheVariants.{BadBase64, TooLong}
use Rattle.picky_kv.specs.Block.{groups_of}
use Rattle.picky_kv.specs.BlockRefusal.{goes_on_after_padding, judged_base64, taken}
use Rattle.picky_kv.specs.inner.Tail.{rest_judged}
use Rattle.picky_text.proofs.Base64Laws.{length_base64}
use Rattle.picky_kv.proofs.GroupLemmas.{bytes_front, bytes_back, bytes_append, base64_bytes}
use Rattle.picky_kv.proofs.GroupLemmas.{rest_is_base64, padding_is_last}
use Rattle.picky_kv.proofs.GroupLemmas.{whole_ends_otherwise, others_end_padded}

-- ---- the groups of four

take_behind : (a t : List ℕ) (k : ℕ) → take (length a + k) (a ++ t) ≡ a ++ take k t
take_behind [] t k = let none : 0 + k ≡ k = omega arith in rw none refl
take_behind (x ∷ a) t k =
    let more : length (x ∷ a) + k ≡ suc (length a + k) = omega arith in
    rw more (ap (λ l. x ∷ l) (take_behind a t k))

-- behind whole groups
pub groups_append : (a t : List ℕ) → length a % 4 ≡ 0 → groups_of (a ++ t) ≡ a ++ groups_of t
unfolding groups_of
groups_append a t whole =
    let k : ℕ = length t - length t % 4 in
    let both = length-append a t in
    let n : length (a ++ t) - length (a ++ t) % 4 ≡ length a + k = omega (arith, both, whole) in
    ap (λ m. take m (a ++ t)) n ∙ take_behind a t k

-- fewer than four characters have none
pub groups_of_few : (t : List ℕ) → length t < 4 → groups_of t ≡ []
unfolding groups_of
groups_of_few t few =
    let none : length t - length t % 4 ≡ 0 = omega (arith, few) in
    ap (λ m. take m t) none

-- so whole groups are those of what begins with them
pub groups_whole : (g t : List ℕ) → length g % 4 ≡ 0 → length t < 4 → groups_of (g ++ t) ≡ g
groups_whole g t whole few =
    groups_append g t whole ∙ ap (λ l. g ++ l) (groups_of_few t few) ∙ append-nil g

-- how long they are
pub length_groups : (t : List ℕ) → length (groups_of t) ≡ length t - length t % 4
unfolding groups_of
length_groups t = length-take-le (length t - length t % 4) t (omega arith)

-- they are bytes where the text is
pub groups_bytes : (t : List ℕ) → IsBytes t → IsBytes (groups_of t)
unfolding groups_of
groups_bytes t small = bytes_front (length t - length t % 4) t small

-- they are whole
pub base64_is_whole : (x : List ℕ) → length (base64_of x) % 4 ≡ 0
base64_is_whole x = let long = length_base64 x in omega (arith, long)

-- ---- behind the base64 of bytes

-- what is judged of the rest is judged of the text
choices : (b c : Bool) (front rest : List ℕ)
    → (if b then Err BadBase64 else if c then Ok (front ++ rest) else Err TooLong)
    ≡ map_ok (λ (r : List ℕ). front ++ r) (if b then Err BadBase64 else if c then Ok rest else Err TooLong)
choices true c front rest = refl
choices false true front rest = refl
choices false false front rest = refl

-- more follows where the rest isn't empty
follows : (x rest : List ℕ) → nat_lt (length x) (length (x ++ rest)) ≡ nat_lt 0 (length rest)
follows x rest =
    let both = length-append x rest in
    elim (cases_lt 0 (length rest)) [
      | inl some ↦
          let left : nat_lt (length x) (length (x ++ rest)) ≡ true = grind (arith, nat_tests, both, some) in
          let right : nat_lt 0 (length rest) ≡ true = grind (arith, nat_tests, some) in
          left ∙ sym right
      | inr none ↦
          let left : nat_lt (length x) (length (x ++ rest)) ≡ false = grind (arith, nat_tests, both, none) in
          let right : nat_lt 0 (length rest) ≡ false = grind (arith, nat_tests, none) in
          left ∙ sym right
    ]

-- the text goes on after padding where the bytes end within a group and the rest isn't empty
pub goes_on_is : (x rest : List ℕ) → IsBytes x → length rest < 4
    → goes_on_after_padding (base64_of x ++ rest) ≡ (not (length x % 3 == 0) && nat_lt 0 (length rest))
unfolding goes_on_after_padding
goes_on_is x rest small few =
    let text : List ℕ = base64_of x ++ rest in
    let groups = groups_whole (base64_of x) rest (base64_is_whole x) few in
    let test : List ℕ → Bool =
    λ g. slice_index g (length g - 1) == 61 && nat_lt (length g) (length text) in
    let last : ℕ = slice_index (base64_of x) (length (base64_of x) - 1) in
    let same = ap test groups ∙ ap (λ b. last == 61 && b) (follows (base64_of x) rest) in
    elim (cases_eq (length x % 3) 0) [
      | inl whole ↦
          let other : (last == 61) ≡ false = ne_eqb last 61 (whole_ends_otherwise x small whole) in
          let is : (length x % 3 == 0) ≡ true = eq-eqb _ _ whole in
          same ∙ rw (other, is) refl
      | inr padded ↦
          let ends : (last == 61) ≡ true = eq-eqb last 61 (others_end_padded x padded) in
          let is : (length x % 3 == 0) ≡ false = ne_eqb _ _ padded in
          same ∙ rw (ends, is) refl
    ]

-- a text of the bytes' groups of four and fewer than four characters is judged by those
pub taken_behind : (x rest : List ℕ) → IsBytes x → length rest < 4
    → taken (base64_of x ++ rest) ≡ map_ok (λ r. base64_of x ++ r) (rest_judged (length x) rest)
unfolding taken rest_judged
taken_behind x rest small few =
    let text : List ℕ = base64_of x ++ rest in
    let groups = groups_whole (base64_of x) rest (base64_is_whole x) few in
    let reads = ap decoded groups ∙ base64_is_read_back x small in
    let short : Bool = nat_lt (length x) (2 ^ 32) in
    let answer : Bool → Result (List ℕ) BlockError =
    λ b. if b then Err BadBase64 else if short then Ok text else Err TooLong in
    ap (judged_base64 text) reads ∙ ap answer (goes_on_is x rest small few)
    ∙ choices (not (length x % 3 == 0) && nat_lt 0 (length rest)) short (base64_of x) rest

-- ---- the rest

pub rest_after_padding : (n : ℕ) (rest : List ℕ) → n % 3 ≢ 0 → 0 < length rest
    → rest_judged n rest ≡ Err BadBase64
unfolding rest_judged
rest_after_padding n rest padded some =
    let more : nat_lt 0 (length rest) ≡ true = grind (arith, nat_tests, some) in
    rw (ne_eqb (n % 3) 0 padded, more) refl

and_false : (b : Bool) → (b && false) ≡ false
and_false true = refl
and_false false = refl

pub rest_is_long : (n : ℕ) (rest : List ℕ) → (n % 3 ≡ 0) ⊎ (length rest ≡ 0) → 2 ^ 32 ≤ n
    → rest_judged n rest ≡ Err TooLong
unfolding rest_judged
rest_is_long n rest (inl whole) over =
    let long : nat_lt n (2 ^ 32) ≡ false = grind (arith, nat_tests, over) in
    rw (eq-eqb (n % 3) 0 whole, long) refl
rest_is_long n rest (inr none) over =
    let long : nat_lt n (2 ^ 32) ≡ false = grind (arith, nat_tests, over) in
    let no_more : nat_lt 0 (length rest) ≡ false = grind (arith, nat_tests, none) in
    let off : (not (n % 3 == 0) && nat_lt 0 (length rest)) ≡ false = rw no_more (and_false (not (n % 3 == 0))) in
    rw (off, long) refl

pub rest_is_kept : (n : ℕ) (rest : List ℕ) → (n % 3 ≡ 0) ⊎ (length rest ≡ 0) → n < 2 ^ 32
    → rest_judged n rest ≡ Ok rest
unfolding rest_judged
rest_is_kept n rest (inl whole) below =
    let short : nat_lt n (2 ^ 32) ≡ true = grind (arith, nat_tests, below) in
    rw (eq-eqb (n % 3) 0 whole, short) refl
rest_is_kept n rest (inr none) below =
    let short : nat_lt n (2 ^ 32) ≡ true = grind (arith, nat_tests, below) in
    let no_more : nat_lt 0 (length rest) ≡ false = grind (arith, nat_tests, none) in
    let off : (not (n % 3 == 0) && nat_lt 0 (length rest)) ≡ false = rw no_more (and_false (not (n % 3 == 0))) in
    rw (off, short) refl

-- what is known of a rest that is kept
pub record IsKept (n : ℕ) (rest tail : List ℕ) : Type 0 where
  pub same : tail ≡ rest
  pub short : n < 2 ^ 32
  pub ended : n % 3 ≢ 0 → rest ≡ []

-- one answer
ok_same : (n : ℕ) (rest tail : List ℕ) → rest_judged n rest ≡ Ok tail → rest_judged n rest ≡ Ok rest
    → tail ≡ rest
ok_same n rest tail is kept = cc (sym is ∙ kept)

pub kept_is : (n : ℕ) (rest tail : List ℕ) → rest_judged n rest ≡ Ok tail → IsKept n rest tail
kept_is n rest tail ok = elim (cases_lt n (2 ^ 32)) [
  | inl below ↦ elim (cases_eq (n % 3) 0) [
    | inl whole ↦ record {
      same = ok_same n rest tail ok (rest_is_kept n rest (inl whole) below);
      short = below;
      ended = λ padded. absurd (padded whole);
    }
    | inr padded ↦ elim (cases_lt 0 (length rest)) [
      | inl some ↦ cc (sym ok ∙ rest_after_padding n rest padded some)
      | inr none ↦
          let empty : length rest ≡ 0 = omega arith in
          record {
            same = ok_same n rest tail ok (rest_is_kept n rest (inr empty) below);
            short = below;
            ended = λ _. nil_from_length rest empty;
          }
    ]
  ]
  | inr over ↦ elim (cases_eq (n % 3) 0) [
    | inl whole ↦ cc (sym ok ∙ rest_is_long n rest (inl whole) over)
    | inr padded ↦ elim (cases_lt 0 (length rest)) [
      | inl some ↦ cc (sym ok ∙ rest_after_padding n rest padded some)
      | inr none ↦
          let empty : length rest ≡ 0 = omega arith in
          cc (sym ok ∙ rest_is_long n rest (inr empty) over)
    ]
  ]
]

-- ---- refusals

-- groups that are no base64, behind whole groups of three
pub bad_groups : (x g rest : List ℕ) → IsBytes x → IsBytes g → length g % 4 ≡ 0 → length rest < 4
    → length x % 3 ≡ 0 → decoded g ≡ None → taken (base64_of x ++ (g ++ rest)) ≡ Err BadBase64
unfolding taken
bad_groups x g rest small_x small_g whole few full none =
    let text : List ℕ = base64_of x ++ (g ++ rest) in
    let groups = groups_append (base64_of x) (g ++ rest) (base64_is_whole x)
    ∙ ap (λ l. base64_of x ++ l) (groups_whole g rest whole few) in
    let both = bytes_append (base64_of x) g (base64_bytes x) small_g in
    let reads : decoded (base64_of x ++ g) ≡ None =
    elim (option_cases (decoded (base64_of x ++ g))) [
      | inl some ↦
          let y = some.0 in
          let is = base64_is_of_what_it_gives _ y both some.1 in
          let small_y = decoded_is_bytes _ y both some.1 in
          let back = rest_is_base64 x g y full is in
          cc (sym none ∙ ap decoded back ∙ base64_is_read_back (drop (length x) y) (bytes_back _ y small_y))
      | inr nothing ↦ nothing
    ] in
    ap (judged_base64 text) (ap decoded groups ∙ reads)

-- anything after padding
pub bad_after_padding : (x text : List ℕ) → IsBytes x → IsBytes text → length x % 3 ≢ 0
    → 0 < length text → taken (base64_of x ++ text) ≡ Err BadBase64
unfolding taken
bad_after_padding x text small_x small padded some =
    let w : List ℕ = groups_of text in
    let groups = groups_append (base64_of x) text (base64_is_whole x) in
    let small_w = groups_bytes text small in
    let both = bytes_append (base64_of x) w (base64_bytes x) small_w in
    elim (option_cases (decoded (base64_of x ++ w))) [
      | inl gives ↦
          let y = gives.0 in
          let is = base64_is_of_what_it_gives _ y both gives.1 in
          let small_y = decoded_is_bytes _ y both gives.1 in
          let none = ap length (padding_is_last x w y small_x small_y padded is) in
          let few : length text < 4 = omega (arith, none, length_groups text) in
          taken_behind x text small_x few
          ∙ ap (map_ok (λ r. base64_of x ++ r)) (rest_after_padding (length x) text padded some)
      | inr none ↦ ap (judged_base64 (base64_of x ++ text)) (ap decoded groups ∙ none)
    ]
