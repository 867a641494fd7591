-- Steps of the loops that cipher, block by block and byte by byte.
use Rattle.std.proofs.Common.{◌≡◌, ◌+◌, ◌*◌, ◌-◌, ◌%◌, ◌<◌, ◌≤◌, ℕ, zero, suc, List, [], ◌∷◌, ◌++◌, length, take, drop, get_or}
use Rattle.std.proofs.Common.{set, inl, inr, refl, sym, ◌∙◌, ap, arith, bit_xor, length-append, append_assoc, append-nil}
use Rattle.std.proofs.Common.{take-append-drop}
use Rattle.std.proofs.lemmas.Bool.{cases_lt}
use Rattle.std.proofs.lemmas.List.{take_at, drop_at, drop-drop, take_all, drop_all, length-take-le, get_or_append_left, get_or-append_right}
use Rattle.picky_suite.specs.Toy.{xored, first_block, more_blocks, ciphered, seal_blocks, open_blocks, masks}

-- ---- block by block

more_at : (at : ℕ) (text : List ℕ) → more_blocks (drop at text) ≡ drop (at + 16) text
unfolding more_blocks
more_at at text = drop-drop 16 at text

-- One block was put into its place, and the others follow: what is done and what is to come makes the same text.
block_step : (blocks : ℕ → List ℕ → List ℕ → List ℕ) (n i : ℕ) (before next text out after : List ℕ)
    → i < n → i * 16 + 16 ≤ length text → length out ≡ 16
    → after ≡ take (i * 16) text ++ out ++ drop (i * 16 + 16) text
    → ((k : ℕ) → blocks (suc k) before (drop (i * 16) text) ≡ out ++ blocks k next (drop (i * 16 + 16) text))
    → take ((i + 1) * 16) after ++ blocks (n - (i + 1)) next (drop ((i + 1) * 16) after)
    ≡ take (i * 16) text ++ blocks (n - i) before (drop (i * 16) text)
block_step blocks n i before next text out after below inside whole put step =
    let at = i * 16 in
    let k = n - (i + 1) in
    let front = take at text ++ out in
    let rest = drop (at + 16) text in
    let len : length front ≡ (i + 1) * 16 =
    omega (arith, length-append (take at text) out, length-take-le at text (omega arith), whole) in
    let left : n - i ≡ suc k = omega arith in
    ap (λ t. take ((i + 1) * 16) t ++ blocks k next (drop ((i + 1) * 16) t)) put
    ∙ ap (λ t. t ++ blocks k next (drop ((i + 1) * 16) (front ++ rest))) (take_at front rest ((i + 1) * 16) len)
    ∙ ap (λ t. front ++ blocks k next t) (drop_at front rest ((i + 1) * 16) len)
    ∙ append_assoc (take at text) out (blocks k next rest)
    ∙ sym (ap (λ t. take at text ++ t) (ap (λ m. blocks m before (drop at text)) left ∙ step k))

-- The step of sealing, where the sealed block is what the next one is chained with.
pub seal_step : (n i : ℕ) (key before text sealed after : List ℕ)
    → i < n → i * 16 + 16 ≤ length text → length sealed ≡ 16
    → sealed ≡ ciphered key (xored (first_block (drop (i * 16) text)) before)
    → after ≡ take (i * 16) text ++ sealed ++ drop (i * 16 + 16) text
    → take ((i + 1) * 16) after ++ seal_blocks (n - (i + 1)) key sealed (drop ((i + 1) * 16) after)
    ≡ take (i * 16) text ++ seal_blocks (n - i) key before (drop (i * 16) text)
seal_step n i key before text sealed after below inside whole is put =
    block_step (λ k. seal_blocks k key) n i before sealed text sealed after below inside whole put
    (λ k. ap (λ b. b ++ seal_blocks k key b (more_blocks (drop (i * 16) text))) (sym is)
    ∙ ap (λ t. sealed ++ seal_blocks k key sealed t) (more_at (i * 16) text))

-- The step of opening, where the sealed block that was there is.
pub open_step : (n i : ℕ) (key before text sealed opened after : List ℕ)
    → i < n → i * 16 + 16 ≤ length text → length opened ≡ 16
    → sealed ≡ first_block (drop (i * 16) text)
    → opened ≡ xored (ciphered key sealed) before
    → after ≡ take (i * 16) text ++ opened ++ drop (i * 16 + 16) text
    → take ((i + 1) * 16) after ++ open_blocks (n - (i + 1)) key sealed (drop ((i + 1) * 16) after)
    ≡ take (i * 16) text ++ open_blocks (n - i) key before (drop (i * 16) text)
open_step n i key before text sealed opened after below inside whole is made put =
    block_step (λ k. open_blocks k key) n i before sealed text opened after below inside whole put
    (λ k. ap (λ b. xored (ciphered key b) before ++ open_blocks k key b (more_blocks (drop (i * 16) text))) (sym is)
    ∙ ap (λ b. b ++ open_blocks k key sealed (more_blocks (drop (i * 16) text))) (sym made)
    ∙ ap (λ t. opened ++ open_blocks k key sealed t) (more_at (i * 16) text))

-- No block is left: the text is done.
pub sealed_all : (n i : ℕ) (key before text : List ℕ) → n ≤ i
    → text ≡ take (i * 16) text ++ seal_blocks (n - i) key before (drop (i * 16) text)
sealed_all n i key before text past =
    let none : 0 ≡ n - i = omega arith in
    sym (take-append-drop (i * 16) text)
    ∙ ap (λ k. take (i * 16) text ++ seal_blocks k key before (drop (i * 16) text)) none

pub opened_all : (n i : ℕ) (key before text : List ℕ) → n ≤ i
    → text ≡ take (i * 16) text ++ open_blocks (n - i) key before (drop (i * 16) text)
opened_all n i key before text past =
    let none : 0 ≡ n - i = omega arith in
    sym (take-append-drop (i * 16) text)
    ∙ ap (λ k. take (i * 16) text ++ open_blocks k key before (drop (i * 16) text)) none

-- ---- byte by byte

masked_here : (bytes mask : List ℕ) (i : ℕ) → i < length bytes → i < length mask
    → set (xored (take i bytes) mask ++ drop i bytes) i
    (bit_xor (get_or (xored (take i bytes) mask ++ drop i bytes) i 0) (get_or mask i 0))
    ≡ xored (take (suc i) bytes) mask ++ drop (suc i) bytes
masked_here [] mask i inside masked = absurd (omega arith)
masked_here (b ∷ bytes) [] i inside masked = absurd (omega arith)
masked_here (b ∷ bytes) (m ∷ mask) zero inside masked = refl
masked_here (b ∷ bytes) (m ∷ mask) (suc i) inside masked =
    ap (λ t. bit_xor b m ∷ t) (masked_here bytes mask i (omega arith) (omega arith))

-- The bytes before the index are xored, and one more is.
pub xored_more : (bytes mask now : List ℕ) (i b m : ℕ) → i < length bytes → i < length mask
    → now ≡ xored (take i bytes) mask ++ drop i bytes → b ≡ get_or now i 0 → m ≡ get_or mask i 0
    → set now i (bit_xor b m) ≡ xored (take (i + 1) bytes) mask ++ drop (i + 1) bytes
xored_more bytes mask now i b m inside masked is read same =
    let next : suc i ≡ i + 1 = omega arith in
    ap (λ x. set now i (bit_xor x m)) read
    ∙ ap (λ x. set now i (bit_xor (get_or now i 0) x)) same
    ∙ ap (λ t. set t i (bit_xor (get_or t i 0) (get_or mask i 0))) is
    ∙ masked_here bytes mask i inside masked
    ∙ ap (λ k. xored (take k bytes) mask ++ drop k bytes) next

-- No byte is left: all are xored.
pub xored_all : (bytes mask now : List ℕ) (i : ℕ) → length bytes ≤ i
    → now ≡ xored (take i bytes) mask ++ drop i bytes → now ≡ xored bytes mask
xored_all bytes mask now i past is =
    is
    ∙ ap (λ t. xored t mask ++ drop i bytes) (take_all i bytes past)
    ∙ ap (λ t. xored bytes mask ++ t) (drop_all i bytes past)
    ∙ append-nil (xored bytes mask)

pub length-masks : (n : ℕ) (mask : List ℕ) → length mask ≡ 16 → length (masks n mask) ≡ n * 16
length-masks zero mask len = refl
length-masks (suc n) mask len =
    omega (arith, length-append mask (masks n mask), length-masks n mask len)

-- Masks in a row have the mask's byte at each place.
pub get_or-masks : (n : ℕ) (mask : List ℕ) (i : ℕ) → length mask ≡ 16 → i < n * 16
    → get_or (masks n mask) i 0 ≡ get_or mask (i % 16) 0
get_or-masks zero mask i len inside = absurd (omega arith)
get_or-masks (suc n) mask i len inside = elim (cases_lt i 16) [
  | inl first ↦
      let at : i ≡ i % 16 = omega arith in
      get_or_append_left mask (masks n mask) 0 i (omega arith) ∙ ap (λ k. get_or mask k 0) at
  | inr past ↦
      let at : (i - 16) % 16 ≡ i % 16 = omega arith in
      get_or-append_right mask (masks n mask) 16 i 0 len past
      ∙ get_or-masks n mask (i - 16) len (omega arith)
      ∙ ap (λ k. get_or mask k 0) at
]
