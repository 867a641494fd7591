-- Lemmas on what the generator draws.
use Rattle.std.proofs.Common.{◌≡◌, ◌∙◌, ◌<◌, ◌+◌, ℕ, zero, suc, [], ◌∷◌, ◌++◌, length, slice_index, ap, sym, refl, arith, zero-add}
use Rattle.picky_convert.specs.Generator.{state_after, byte_of, generated, next}

-- ---- one more

pub after_more : (n s : ℕ) → state_after (n + 1) s ≡ next (state_after n s)
unfolding state_after
after_more zero s = refl
after_more (suc n) s =
    let more : suc n + 1 ≡ suc (n + 1) = omega arith in
    ap (λ k. state_after k s) more ∙ after_more n (next s)

pub drawn_more : (n s : ℕ) → generated (n + 1) s ≡ generated n s ++ byte_of (next (state_after n s)) ∷ []
unfolding state_after generated
drawn_more zero s = refl
drawn_more (suc n) s =
    let more : suc n + 1 ≡ suc (n + 1) = omega arith in
    ap (λ k. generated k s) more ∙ ap (λ bytes. byte_of (next s) ∷ bytes) (drawn_more n (next s))

-- ---- some behind others

pub after_none : (s : ℕ) → state_after 0 s ≡ s
unfolding state_after
after_none s = refl

pub after_both : (a b s : ℕ) → state_after b (state_after a s) ≡ state_after (a + b) s
unfolding state_after
after_both zero b s = ap (λ k. state_after k s) (sym (zero-add b))
after_both (suc a) b s =
    let more : suc (a + b) ≡ suc a + b = omega arith in
    after_both a b (next s) ∙ ap (λ k. state_after k s) more

-- ---- what is drawn

pub length-drawn : (n s : ℕ) → length (generated n s) ≡ n
unfolding generated
length-drawn zero s = refl
length-drawn (suc n) s = ap suc (length-drawn n (next s))

byte_is_small : (s : ℕ) → byte_of (next s) < 256
unfolding byte_of next
byte_is_small s = omega arith

pub drawn_is_bytes : (n s i : ℕ) → slice_index (generated n s) i < 256
unfolding generated
drawn_is_bytes zero s i = omega arith
drawn_is_bytes (suc n) s zero = byte_is_small s
drawn_is_bytes (suc n) s (suc i) = drawn_is_bytes n (next s) i
