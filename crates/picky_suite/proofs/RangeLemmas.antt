-- The tests of the ranges hold exactly in the ranges.
use Rattle.std.proofs.Common.{◌^◌, ◌≤◌, ◌*◌, ℕ, inl, inr, arith}
use Rattle.std.specs.Prelude.{nat_le}
use Rattle.std.specs.Bool.{Decides}
use Rattle.std.proofs.lemmas.Bool.Decides.{leb_tells, Decides-ltb, Decides-and, Decides-like}
use Rattle.std.proofs.lemmas.Bool.{leb-true}
use Rattle.picky_suite.specs.Ranges.{BcryptOk, bcrypt_fits, Argon2Ok, argon2_fits}

Decides-nat_le : (a b : ℕ) → Decides (nat_le a b) (a ≤ b)
Decides-nat_le a b =
    (leb-true a b, λ below. elim (leb_tells a b) [ inl w ↦ w.0 | inr w ↦ absurd (omega arith) ])

pub bcrypt_decides : (pass_len salt_len rounds : ℕ)
    → Decides (bcrypt_fits pass_len salt_len rounds) (BcryptOk pass_len salt_len rounds)
unfolding bcrypt_fits
bcrypt_decides p s r =
    Decides-like _ (λ w. (w.0.0.0.0, w.0.0.0.1, w.0.0.1, w.0.1, w.1)) (λ w. ((((w.0, w.1), w.2), w.3), w.4))
    (Decides-and _ _ (Decides-and _ _ (Decides-and _ _ (Decides-and _ _ (Decides-nat_le 1 p) (Decides-ltb p (2 ^ 32)))
    (Decides-nat_le 1 s)) (Decides-ltb s (2 ^ 32))) (Decides-nat_le 1 r))

pub argon2_decides : (memory passes parallelism pass_len salt_len : ℕ)
    → Decides (argon2_fits memory passes parallelism pass_len salt_len)
    (Argon2Ok memory passes parallelism pass_len salt_len)
unfolding argon2_fits
argon2_decides m t p pass salt =
    Decides-like _
    (λ w. (w.0.0.0.0.0.0, w.0.0.0.0.0.1, w.0.0.0.0.1, w.0.0.0.1, w.0.0.1, w.0.1, w.1))
    (λ w. ((((((w.0, w.1), w.2), w.3), w.4), w.5), w.6))
    (Decides-and _ _ (Decides-and _ _ (Decides-and _ _ (Decides-and _ _ (Decides-and _ _ (Decides-and _ _
    (Decides-nat_le 1 p) (Decides-nat_le p 16777215)) (Decides-nat_le (8 * p) m)) (Decides-nat_le 1 t))
    (Decides-ltb pass (2 ^ 32))) (Decides-nat_le 8 salt)) (Decides-ltb salt (2 ^ 32)))
