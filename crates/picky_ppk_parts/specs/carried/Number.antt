-- That the reading of a secret as a number is sound and complete.
use Rattle.std.specs.Prelude.{◌≡◌, List, ℕ, ◌+◌, ◌-◌, ◌++◌, ◌≤◌, true, nat_le, length, replicate, if◌then◌else◌, Ok, Err}
use Rattle.std.proofs.Common.{sym, ap, ◌∙◌, arith}
use Rattle.std.proofs.lemmas.Bool.{leb-true, le-leb}
use Rattle.std.proofs.lemmas.List.{length-append, length-replicate}
use Rattle.picky_wire_base.specs.carried.Outcome.{passed_ok}
use Rattle.picky_wire_base.specs.Zeros.{without_zeros}
use Rattle.picky_wire_base.specs.carried.Zeros.{zeros_are_dropped, all_is_kept, zeros_in_front, no_zero_begins}
use Rattle.picky_ppk_parts.specs.Number.{IsNumberOf, padded_number, read_number}

-- What is padded is as long as wanted.
pub padded_len : (number : List ℕ) → length number ≤ 32 → length (padded_number number) ≡ 32
padded_len number short =
    let zeros = length-replicate {A = ℕ} (32 - length number) 0 in
    omega (arith, length-append (replicate (32 - length number) 0) number, zeros)

pub number_sound : {E : Type 0} (why : E) (bytes secret : List ℕ) → read_number why bytes ≡ Ok secret
    → IsNumberOf bytes secret
number_sound why bytes secret is =
    let number = without_zeros bytes in
    let passed = passed_ok (nat_le (length number) 32) why (padded_number number) secret is in
    let short = leb-true (length number) 32 passed.0 in (
      ap length (sym passed.1) ∙ padded_len number short,
      sym (all_is_kept number (no_zero_begins bytes)) ∙ sym (zeros_are_dropped (32 - length number) number)
          ∙ ap without_zeros passed.1,
    )

pub number_complete : {E : Type 0} (why : E) (bytes secret : List ℕ) → IsNumberOf bytes secret
    → read_number why bytes ≡ Ok secret
number_complete why bytes secret (len, same) =
    let number = without_zeros secret in
    let front = zeros_in_front secret in
    let whole : 32 ≡ front.0 + length number =
    omega (arith, len, ap length front.1, length-append (replicate front.0 0) number, length-replicate {A = ℕ} front.0 0) in
    let short : nat_le (length number) 32 ≡ true = le-leb (length number) 32 (omega arith) in
    let zeros : 32 - length number ≡ front.0 = omega arith in
    ap (λ v. if nat_le (length v) 32 then Ok (padded_number v) else Err why) same
    ∙ ap (λ t. if t then Ok (padded_number number) else Err why) short
    ∙ ap (λ n. Ok (replicate n 0 ++ number)) zeros ∙ ap Ok (sym front.1)
