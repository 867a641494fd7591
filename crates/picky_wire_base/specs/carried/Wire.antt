-- That the reading of bytes is sound and complete; and UTF-8 is decided.
use Rattle.std.specs.Prelude.{◌≡◌, List, ℕ, ◌+◌, ◌++◌, ◌≤◌, nat_lt, length, take, drop, Ok}
use Rattle.std.specs.Bool.{Decides}
use Rattle.std.specs.Str.{IsUtf8, is_utf8}
use Rattle.std.proofs.Common.{sym, ◌∙◌, ap, refl, arith}
use Rattle.std.proofs.lemmas.Bool.{ltb-false, le-ltb}
use Rattle.std.proofs.lemmas.List.{length-take-le, length-drop, take-append-drop, length-append, take_at}
use Rattle.std.proofs.lemmas.List.{drop_at}
use Rattle.std.proofs.lemmas.Str.{IsUtf8-from_is_utf8, is_utf8-from_IsUtf8}
use Rattle.picky_wire_base.specs.carried.Outcome.{guard_ok, pass_ok}
use Rattle.picky_wire_base.specs.Flaw.{Short}
use Rattle.picky_wire_base.specs.Grammar.{Fits}
use Rattle.picky_wire_base.specs.ByteArray.{IsByteArray, read_byte_array}

pub byte_array_sound : (n : ℕ) (bytes v rest : List ℕ) → read_byte_array n bytes ≡ Ok (v, rest)
    → Fits (IsByteArray n) v bytes rest
byte_array_sound n bytes v rest same =
    let passed = guard_ok (nat_lt (length bytes) n) Short (take n bytes, drop n bytes) (v, rest) same in
    let enough : n ≤ length bytes = ltb-false (length bytes) n passed.0 in
    let front = ap (λ p. p.0) passed.1 in (
      v,
      (sym (ap length front) ∙ length-take-le n bytes enough, refl),
      sym (take-append-drop n bytes) ∙ ap (λ p. p.0 ++ p.1) passed.1,
    )

pub byte_array_complete : (n : ℕ) (v front rest : List ℕ) → IsByteArray n v front
    → read_byte_array n (front ++ rest) ≡ Ok (v, rest)
byte_array_complete n v front rest (len, is) =
    let long : length front ≡ n = ap length is ∙ len in
    let enough : n ≤ length (front ++ rest) = omega (arith, length-append front rest) in
    let whole = take_at front rest n long ∙ is in
    pass_ok (nat_lt (length (front ++ rest)) n) Short _ (v, rest) (le-ltb _ n enough)
    (ap (λ t. (t, drop n (front ++ rest))) whole ∙ ap (λ d. (v, d)) (drop_at front rest n long))

pub byte_array_takes : (n : ℕ) (bytes v rest : List ℕ) → read_byte_array n bytes ≡ Ok (v, rest)
    → length bytes ≡ n + length rest
byte_array_takes n bytes v rest same =
    let passed = guard_ok (nat_lt (length bytes) n) Short (take n bytes, drop n bytes) (v, rest) same in
    let enough : n ≤ length bytes = ltb-false (length bytes) n passed.0 in
    omega (arith, length-drop n bytes, ap (λ p. length p.1) passed.1)

pub IsUtf8-Decides : (bytes : List ℕ) → Decides (is_utf8 bytes) (IsUtf8 bytes)
IsUtf8-Decides bytes = (IsUtf8-from_is_utf8 bytes, is_utf8-from_IsUtf8 bytes)
