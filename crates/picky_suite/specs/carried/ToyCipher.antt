-- The cipher for tests keeps the laws of a suite.
use Rattle.std.proofs.Common.{◌≡◌, ◌+◌, ◌*◌, ◌/◌, ◌≤◌, ℕ, zero, suc, List, [], ◌∷◌, ◌++◌, length}
use Rattle.std.proofs.Common.{refl, sym, ◌∙◌, ap, arith, bit_xor, length-append, take-append-drop}
use Rattle.std.specs.Int.Bits.{xor_assoc, xor_self, xor_zero_r}
use Rattle.std.proofs.lemmas.Nat.{xor_of_8}
use Rattle.std.proofs.lemmas.List.{take_at, drop_at, length-take-le}
use Rattle.picky_wire_base.specs.Numbers.{IsBytes}
use Rattle.picky_wire_base.proofs.Numbers.{front_bytes, back_bytes}
use Rattle.picky_suite.specs.Ranges.{IsWhole}
use Rattle.picky_suite.specs.Toy.{xored, first_block, more_blocks, ciphered, seal_blocks, open_blocks, toy_seal}
use Rattle.picky_suite.specs.Toy.{toy_open, masks, toy_ctr}
use Rattle.picky_suite.specs.carried.Bytes.{joined_bytes, no_bytes}

-- ---- lengths

pub length-xored : (bytes mask : List ℕ) → length (xored bytes mask) ≡ length bytes
length-xored [] mask = refl
length-xored (b ∷ bytes) [] = refl
length-xored (b ∷ bytes) (m ∷ mask) = ap suc (length-xored bytes mask)

both_blocks : (text : List ℕ) → first_block text ++ more_blocks text ≡ text
unfolding first_block more_blocks
both_blocks text = take-append-drop 16 text

both_lengths : (text : List ℕ) → length (first_block text) + length (more_blocks text) ≡ length text
both_lengths text = sym (length-append (first_block text) (more_blocks text)) ∙ ap length (both_blocks text)

whole_block : (text : List ℕ) → 16 ≤ length text → length (first_block text) ≡ 16
unfolding first_block
whole_block text long = length-take-le 16 text long

pub length-seal_blocks : (n : ℕ) (key before text : List ℕ) → length (seal_blocks n key before text) ≡ length text
length-seal_blocks zero key before text = refl
length-seal_blocks (suc n) key before text =
    let plain = xored (first_block text) before in
    let sealed = ciphered key plain in
    let len : length sealed ≡ length (first_block text) =
    length-xored plain (first_block key) ∙ length-xored (first_block text) before in
    let rest = length-seal_blocks n key sealed (more_blocks text) in
    let joined = length-append sealed (seal_blocks n key sealed (more_blocks text)) in
    omega (arith, len, rest, joined, both_lengths text)

pub length-open_blocks : (n : ℕ) (key before text : List ℕ) → length (open_blocks n key before text) ≡ length text
length-open_blocks zero key before text = refl
length-open_blocks (suc n) key before text =
    let first = first_block text in
    let opened = xored (ciphered key first) before in
    let len : length opened ≡ length first =
    length-xored (ciphered key first) before ∙ length-xored first (first_block key) in
    let rest = length-open_blocks n key first (more_blocks text) in
    let joined = length-append opened (open_blocks n key first (more_blocks text)) in
    omega (arith, len, rest, joined, both_lengths text)

pub seal_len : (key iv text : List ℕ) → length (toy_seal key iv text) ≡ length text
unfolding toy_seal
seal_len key iv text = length-seal_blocks (length text / 16) key iv text

pub open_len : (key iv text : List ℕ) → length (toy_open key iv text) ≡ length text
unfolding toy_open
open_len key iv text = length-open_blocks (length text / 16) key iv text

pub ctr_len : (key iv text : List ℕ) → length (toy_ctr key iv text) ≡ length text
unfolding toy_ctr
ctr_len key iv text = length-xored text _

-- ---- the cipher undoes itself

xor_back : (b m : ℕ) → bit_xor (bit_xor b m) m ≡ b
xor_back b m = xor_assoc b m m ∙ ap (bit_xor b) (xor_self m) ∙ xor_zero_r b

pub xored_back : (bytes mask : List ℕ) → xored (xored bytes mask) mask ≡ bytes
xored_back [] mask = refl
xored_back (b ∷ bytes) [] = refl
xored_back (b ∷ bytes) (m ∷ mask) =
    ap (λ c. c ∷ xored (xored bytes mask) mask) (xor_back b m) ∙ ap (λ more. b ∷ more) (xored_back bytes mask)

-- a block that was sealed in front of others is the first that is opened
first_sealed : (sealed rest : List ℕ) → length sealed ≡ 16 → first_block (sealed ++ rest) ≡ sealed
unfolding first_block
first_sealed sealed rest len = take_at sealed rest 16 len

more_sealed : (sealed rest : List ℕ) → length sealed ≡ 16 → more_blocks (sealed ++ rest) ≡ rest
unfolding more_blocks
more_sealed sealed rest len = drop_at sealed rest 16 len

open_step : (n : ℕ) (key before text first more : List ℕ) → first_block text ≡ first → more_blocks text ≡ more
    → open_blocks (suc n) key before text ≡ xored (ciphered key first) before ++ open_blocks n key first more
open_step n key before text first more is_first is_more =
    ap (λ f. xored (ciphered key f) before ++ open_blocks n key f (more_blocks text)) is_first
    ∙ ap (λ m. xored (ciphered key first) before ++ open_blocks n key first m) is_more

opened_back : (key before plain : List ℕ)
    → xored (ciphered key (ciphered key (xored plain before))) before ≡ plain
opened_back key before plain =
    ap (λ b. xored b before) (xored_back (xored plain before) (first_block key)) ∙ xored_back plain before

opens_blocks : (n : ℕ) (key before text : List ℕ) → n * 16 ≤ length text
    → open_blocks n key before (seal_blocks n key before text) ≡ text
opens_blocks zero key before text fits = refl
opens_blocks (suc n) key before text fits =
    let first = first_block text in
    let more = more_blocks text in
    let plain = xored first before in
    let sealed = ciphered key plain in
    let rest = seal_blocks n key sealed more in
    let whole : length first ≡ 16 = whole_block text (omega arith) in
    let len : length sealed ≡ 16 = length-xored plain (first_block key) ∙ length-xored first before ∙ whole in
    let left : n * 16 ≤ length more = omega (arith, whole, both_lengths text) in
    open_step n key before (sealed ++ rest) sealed rest (first_sealed sealed rest len) (more_sealed sealed rest len)
    ∙ ap (λ b. b ++ open_blocks n key sealed rest) (opened_back key before first)
    ∙ ap (λ m. first ++ m) (opens_blocks n key sealed more left)
    ∙ both_blocks text

pub opens : (key iv text : List ℕ) → IsWhole text → toy_open key iv (toy_seal key iv text) ≡ text
unfolding toy_seal toy_open
opens key iv text whole =
    let n = length text / 16 in
    ap (λ k. open_blocks (k / 16) key iv (seal_blocks n key iv text)) (length-seal_blocks n key iv text)
    ∙ opens_blocks n key iv text (omega arith)

pub twice : (key iv text : List ℕ) → toy_ctr key iv (toy_ctr key iv text) ≡ text
unfolding toy_ctr
twice key iv text =
    let mask = ciphered key iv in
    let stream = masks ((length text + 15) / 16) mask in
    ap (λ k. xored (xored text stream) (masks ((k + 15) / 16) mask)) (length-xored text stream)
    ∙ xored_back text stream

-- ---- what is made of bytes is bytes

pub xored_bytes : (bytes mask : List ℕ) → IsBytes bytes → IsBytes mask → IsBytes (xored bytes mask)
xored_bytes [] mask each masked i = each i
xored_bytes (b ∷ bytes) [] each masked i = each i
xored_bytes (b ∷ bytes) (m ∷ mask) each masked zero = xor_of_8 b m (each zero) (masked zero)
xored_bytes (b ∷ bytes) (m ∷ mask) each masked (suc i) =
    xored_bytes bytes mask (λ k. each (suc k)) (λ k. masked (suc k)) i

first_bytes : (text : List ℕ) → IsBytes text → IsBytes (first_block text)
unfolding first_block
first_bytes text each = front_bytes 16 text each

more_bytes : (text : List ℕ) → IsBytes text → IsBytes (more_blocks text)
unfolding more_blocks
more_bytes text each = back_bytes 16 text each

ciphered_bytes : (key block : List ℕ) → IsBytes key → IsBytes block → IsBytes (ciphered key block)
ciphered_bytes key block key_bytes each = xored_bytes block (first_block key) each (first_bytes key key_bytes)

seal_blocks_bytes : (n : ℕ) (key before text : List ℕ) → IsBytes key → IsBytes before → IsBytes text
    → IsBytes (seal_blocks n key before text)
seal_blocks_bytes zero key before text key_bytes before_bytes each = each
seal_blocks_bytes (suc n) key before text key_bytes before_bytes each =
    let plain = xored (first_block text) before in
    let sealed = ciphered key plain in
    let sealed_each : IsBytes sealed =
    ciphered_bytes key plain key_bytes (xored_bytes (first_block text) before (first_bytes text each) before_bytes) in
    joined_bytes sealed (seal_blocks n key sealed (more_blocks text)) sealed_each
    (seal_blocks_bytes n key sealed (more_blocks text) key_bytes sealed_each (more_bytes text each))

open_blocks_bytes : (n : ℕ) (key before text : List ℕ) → IsBytes key → IsBytes before → IsBytes text
    → IsBytes (open_blocks n key before text)
open_blocks_bytes zero key before text key_bytes before_bytes each = each
open_blocks_bytes (suc n) key before text key_bytes before_bytes each =
    let first = first_block text in
    let first_each = first_bytes text each in
    let opened = xored (ciphered key first) before in
    joined_bytes opened (open_blocks n key first (more_blocks text))
    (xored_bytes (ciphered key first) before (ciphered_bytes key first key_bytes first_each) before_bytes)
    (open_blocks_bytes n key first (more_blocks text) key_bytes first_each (more_bytes text each))

pub seal_bytes : (key iv text : List ℕ) → IsBytes key → IsBytes iv → IsBytes text → IsBytes (toy_seal key iv text)
unfolding toy_seal
seal_bytes key iv text = seal_blocks_bytes (length text / 16) key iv text

pub open_bytes : (key iv text : List ℕ) → IsBytes key → IsBytes iv → IsBytes text → IsBytes (toy_open key iv text)
unfolding toy_open
open_bytes key iv text = open_blocks_bytes (length text / 16) key iv text

masks_bytes : (n : ℕ) (mask : List ℕ) → IsBytes mask → IsBytes (masks n mask)
masks_bytes zero mask each = no_bytes
masks_bytes (suc n) mask each = joined_bytes mask (masks n mask) each (masks_bytes n mask each)

pub ctr_bytes : (key iv text : List ℕ) → IsBytes key → IsBytes iv → IsBytes text → IsBytes (toy_ctr key iv text)
unfolding toy_ctr
ctr_bytes key iv text key_bytes iv_bytes each =
    xored_bytes text _ each (masks_bytes _ (ciphered key iv) (ciphered_bytes key iv key_bytes iv_bytes))
