-- That the reading of an mpint is sound and complete.
use Rattle.std.specs.Prelude.{◌≡◌, List, ℕ, ◌-◌, ◌^◌, nat_lt, length, if◌then◌else◌, Ok, Err}
use Rattle.std.proofs.Common.{◌∙◌, ap, subst}
use Rattle.std.proofs.lemmas.Bool.{ltb-true, lt-ltb}
use Rattle.picky_wire_base.specs.Flaw.{Big}
use Rattle.picky_wire_base.specs.carried.Outcome.{passed_ok}
use Rattle.picky_wire_base.specs.Zeros.{without_zeros}
use Rattle.picky_wire_base.specs.carried.Zeros.{zeros_are_dropped, all_is_kept, zeros_in_front, no_zero_begins}
use Rattle.picky_wire_base.specs.Magnitude.{StandsFor, read_mpint}

pub mpint_sound : (bytes v : List ℕ) → read_mpint bytes ≡ Ok v → StandsFor bytes v
mpint_sound bytes v same =
    let v' = without_zeros bytes in
    let passed = passed_ok (nat_lt (length v') (2 ^ 32 - 1)) Big v' v same in
    let small = ltb-true (length v') (2 ^ 32 - 1) passed.0 in
    let front = zeros_in_front bytes in
    subst (StandsFor bytes) passed.1 (record {
      mpint = record { begins = no_zero_begins bytes; short = small };
      zeros = front.0;
      are = front.1;
    })

pub mpint_complete : (bytes v : List ℕ) → StandsFor bytes v → read_mpint bytes ≡ Ok v
mpint_complete bytes v stands =
    let dropped = ap without_zeros stands.are ∙ zeros_are_dropped stands.zeros v in
    let kept = dropped ∙ all_is_kept v stands.mpint.begins in
    let small = lt-ltb (length v) (2 ^ 32 - 1) stands.mpint.short in
    ap (λ w. if nat_lt (length w) (2 ^ 32 - 1) then Ok w else Err Big) kept
    ∙ ap (λ t. if t then Ok v else Err Big) small
