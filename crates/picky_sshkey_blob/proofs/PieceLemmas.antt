-- Lemmas on the pieces of a private key.
use Rattle.std.specs.Prelude.{◌≡◌, List, ℕ, ◌++◌, length}
use Rattle.std.specs.Int.{w32, to_be_bytes}
use Rattle.std.proofs.Common.{ap, sym, ◌∙◌, arith, append_assoc}
use Rattle.std.proofs.lemmas.List.{length-append}
use Rattle.picky_wire_base.specs.Wire.{string_of}

-- a string of two lists of 32 bytes is its length and then each of them
pub both_joined : (v w rest : List ℕ) → length v ≡ 32 → length w ≡ 32
    → to_be_bytes w32 64 ++ (v ++ (w ++ rest)) ≡ string_of (v ++ w) ++ rest
unfolding string_of
both_joined v w rest first second =
    let len : length (v ++ w) ≡ 64 = omega (arith, length-append v w) in
    ap (λ n. to_be_bytes w32 n ++ (v ++ (w ++ rest))) (sym len)
    ∙ ap (λ b. to_be_bytes w32 (length (v ++ w)) ++ b) (sym (append_assoc v w rest))
    ∙ sym (append_assoc (to_be_bytes w32 (length (v ++ w))) (v ++ w) rest)
