-- Lemmas on fields that are seen at their places.
use Rattle.std.proofs.Common.{◌≡◌, ℕ, ◌+◌, ◌-◌, ◌≤◌, ◌<◌, List, ◌++◌, length, take, drop, replicate, sym, ap, ◌∙◌, arith, refl, Ok, Err}
use Rattle.std.specs.Prelude.{⊤, Bool, true, false}
use Rattle.std.specs.Int.{Width, w8, w32, w64, byte_len, from_be_bytes}
use Rattle.std.specs.Str.{IsUtf8, is_utf8}
use Rattle.std.proofs.lemmas.Str.{is_utf8-from_IsUtf8, IsUtf8-from_is_utf8}
use Rattle.std.proofs.lemmas.List.{length-append, length-drop, length-take-le, take-append-drop, drop-drop, drop-take, drop_at}
use Rattle.picky_wire_base.specs.Flaw.{Flaw, Flawed}
use Rattle.picky_wire_base.specs.Outcome.{and_then, map_err}
use Rattle.picky_wire_base.specs.Combine.{narrow, each}
use Rattle.picky_wire_base.specs.Narrowed.{meant}
use Rattle.picky_wire_base.specs.Wire.{byte_array, number, uint32, string}
use Rattle.picky_wire_base.specs.Numbers.{byte, uint64}
use Rattle.picky_wire_base.specs.Zeros.{without_zeros}
use Rattle.picky_wire_base.specs.carried.Zeros.{zeros_in_front}
use Rattle.picky_wire_base.specs.declared.view.Part.{Part}
use Rattle.picky_wire_base.specs.declared.view.Stuck.TheVariants as stucks
use Rattle.picky_wire_base.specs.View.{end_of, Seen, Lies, part_bytes}
use Rattle.picky_wire_base.proofs.MpintLemmas.{kept_within}
use Rattle.picky_wire_base.proofs.ReadLemmas.{byte_array-read, byte_array-short}
use Rattle.picky_wire_base.specs.Grammar.{Grammar}

-- what a view of each value is, is read as the value is
each_read : {A B : Type 0} (G : Grammar Flaw A) (view : A → B) (before after : List ℕ) (a : A)
    → G.read before ≡ Ok (a, after) → (narrow G (each view)).read before ≡ Ok (view a, after)
each_read G view before after a read = ap (λ r. and_then r (meant (each view))) read

each_refused : {A B : Type 0} (G : Grammar Flaw A) (view : A → B) (before : List ℕ) (f : Flaw)
    → G.read before ≡ Err f → (narrow G (each view)).read before ≡ Err f
each_refused G view before f refused = ap (λ r. and_then r (meant (each view))) refused

-- so many bytes stand at the place
byte_array_are : (n from : ℕ) (blob bytes : List ℕ) → from + n ≤ length blob
    → bytes ≡ take n (drop from blob)
    → (byte_array n).read (drop from blob) ≡ Ok (bytes, drop (from + n) blob)
byte_array_are n from blob bytes fits is =
    let enough : n ≤ length (drop from blob) = omega (arith, length-drop from blob) in
    let len = ap length is ∙ length-take-le n (drop from blob) enough in
    let split = ap (λ b. b ++ drop n (drop from blob)) is ∙ take-append-drop n (drop from blob) in
    byte_array-read n bytes (drop n (drop from blob)) (drop from blob) len (sym split)
    ∙ ap (λ r. Ok (bytes, r)) (drop-drop n from blob)

-- they are a part of the buffer
pub byte_array_seen : (n from : ℕ) (blob : List ℕ) (part : Part) → from + n ≤ length blob
    → part.at ≡ from → part.bytes.now ≡ take n (drop from blob)
    → Seen part_bytes (Lies blob (end_of (byte_array n) blob from)) Flawed (byte_array n) blob from (Ok (part, from + n))
unfolding byte_array
byte_array_seen n from blob part fits place is =
    let enough : n ≤ length (drop from blob) = omega (arith, length-drop from blob) in
    let len : length part.bytes.now ≡ n = ap length is ∙ length-take-le n (drop from blob) enough in
    record {
      sees = byte_array_are n from blob part.bytes.now fits is;
      placed = (
        record {
          ends = omega (arith, len, place);
          within = fits;
          are = is ∙ ap (λ m. take m (drop from blob)) (sym len)
              ∙ ap (λ p. take (length part.bytes.now) (drop p blob)) (sym place);
        },
        refl,
        fits,
      );
    }

-- the buffer ends before
pub byte_array_unseen : (n from : ℕ) (blob : List ℕ) → length (drop from blob) < n
    → Seen part_bytes (Lies blob (end_of (byte_array n) blob from)) Flawed (byte_array n) blob from (Err stucks.Short)
byte_array_unseen n from blob short =
    record { sees = ap (map_err Flawed) (byte_array-short n (drop from blob) short); placed = tt }

-- ---- numbers

-- bytes at the place, read as one number
number_seen : (w : Width) (from n : ℕ) (blob bytes : List ℕ) → from + byte_len w ≤ length blob
    → bytes ≡ take (byte_len w) (drop from blob) → n ≡ from_be_bytes w bytes
    → Seen (λ m. m) (λ _. ⊤) Flawed (number w) blob from (Ok (n, from + byte_len w))
unfolding byte_array
number_seen w from n blob bytes fits is value =
    record {
      sees = each_read (byte_array (byte_len w)) (from_be_bytes w) (drop from blob) (drop (from + byte_len w) blob) bytes
          (byte_array_are (byte_len w) from blob bytes fits is)
          ∙ ap (λ m. Ok (m, drop (from + byte_len w) blob)) (sym value);
      placed = (tt, refl, fits);
    }

-- the buffer ends before
number_unseen : (w : Width) (from : ℕ) (blob : List ℕ) → 0 < byte_len w → length blob < from + byte_len w
    → Seen {X = ℕ} (λ m. m) (λ _. ⊤) Flawed (number w) blob from (Err stucks.Short)
number_unseen w from blob some short =
    let few : length (drop from blob) < byte_len w = omega (arith, length-drop from blob) in
    let head = byte_array-short (byte_len w) (drop from blob) few in
    let refused = each_refused (byte_array (byte_len w)) (from_be_bytes w) (drop from blob) _ head in
    record { sees = ap (map_err Flawed) refused; placed = tt }

-- one byte, four and eight
pub byte_seen : (from n : ℕ) (blob bytes : List ℕ) → from + 1 ≤ length blob
    → bytes ≡ take 1 (drop from blob) → n ≡ from_be_bytes w8 bytes
    → Seen (λ m. m) (λ _. ⊤) Flawed byte blob from (Ok (n, from + 1))
unfolding byte
byte_seen from n blob bytes fits is value = number_seen w8 from n blob bytes fits is value

pub byte_unseen : (from : ℕ) (blob : List ℕ) → length blob < from + 1
    → Seen {X = ℕ} (λ m. m) (λ _. ⊤) Flawed byte blob from (Err stucks.Short)
unfolding byte
byte_unseen from blob short = number_unseen w8 from blob (omega arith) short

pub uint32_seen : (from n : ℕ) (blob bytes : List ℕ) → from + 4 ≤ length blob
    → bytes ≡ take 4 (drop from blob) → n ≡ from_be_bytes w32 bytes
    → Seen (λ m. m) (λ _. ⊤) Flawed uint32 blob from (Ok (n, from + 4))
unfolding uint32
uint32_seen from n blob bytes fits is value = number_seen w32 from n blob bytes fits is value

pub uint32_unseen : (from : ℕ) (blob : List ℕ) → length blob < from + 4
    → Seen {X = ℕ} (λ m. m) (λ _. ⊤) Flawed uint32 blob from (Err stucks.Short)
unfolding uint32
uint32_unseen from blob short = number_unseen w32 from blob (omega arith) short

pub uint64_seen : (from n : ℕ) (blob bytes : List ℕ) → from + 8 ≤ length blob
    → bytes ≡ take 8 (drop from blob) → n ≡ from_be_bytes w64 bytes
    → Seen (λ m. m) (λ _. ⊤) Flawed uint64 blob from (Ok (n, from + 8))
unfolding uint64
uint64_seen from n blob bytes fits is value = number_seen w64 from n blob bytes fits is value

pub uint64_unseen : (from : ℕ) (blob : List ℕ) → length blob < from + 8
    → Seen {X = ℕ} (λ m. m) (λ _. ⊤) Flawed uint64 blob from (Err stucks.Short)
unfolding uint64
uint64_unseen from blob short = number_unseen w64 from blob (omega arith) short

pub ruleset byte_at_place = (byte_seen, byte_unseen)

pub ruleset uint32_at_place = (uint32_seen, uint32_unseen)

pub ruleset uint64_at_place = (uint64_seen, uint64_unseen)

-- ---- strings

-- bytes that aren't UTF-8 fail the test
pub not_utf8 : (bytes : List ℕ) → (IsUtf8 bytes → ⊥) → is_utf8 bytes ≡ false
not_utf8 bytes other = go (is_utf8 bytes) refl
  where
    go : (t : Bool) → is_utf8 bytes ≡ t → t ≡ false
    go true is = absurd (other (IsUtf8-from_is_utf8 bytes is))
    go false is = refl

-- the test of UTF-8
pub ruleset tests = (not_utf8, is_utf8-from_IsUtf8)

-- four bytes of length stand before a string's bytes
pub string_leaves : (bytes v rest : List ℕ) → string.read bytes ≡ Ok (v, rest)
    → 4 + length v ≤ length bytes
unfolding string uint32 byte_array
string_leaves bytes v rest read =
    let fits = string.sound bytes v rest read in
    let piece = fits.1 in
    let head : length piece.1 ≡ 4 = ap length piece.3.1.1 ∙ piece.3.1.0 in
    let whole = length-append fits.0 rest in
    let parts = length-append piece.1 piece.2 in
    omega (arith, ap length fits.2, whole, ap length piece.5, parts, head, ap length piece.4.1)

-- ---- mpints

-- the bytes without the zeros in front of them are the last ones
number_is_behind : (v w : List ℕ) → w ≡ without_zeros v → w ≡ drop (length v - length w) v
number_is_behind v w is =
    let front = zeros_in_front v in
    let zeros : List ℕ = replicate front.0 0 in
    let n : ℕ = length v - length w in
    let len : length zeros ≡ n =
    omega (arith, ap length front.1, length-append zeros (without_zeros v), ap length is) in
    is ∙ sym (ap (drop n) front.1 ∙ drop_at zeros (without_zeros v) n len)

-- so they lie in the buffer as the string does
pub number_lies : (blob : List ℕ) (end : ℕ) (whole number : Part) → Lies blob end whole
    → number.bytes.now ≡ without_zeros whole.bytes.now
    → number.at ≡ whole.at + (length whole.bytes.now - length number.bytes.now) → Lies blob end number
number_lies blob end whole number lies is place =
    let kept = kept_within whole.bytes.now number.bytes.now is in
    let zeros : ℕ = length whole.bytes.now - length number.bytes.now in
    let kept_len : ℕ = length number.bytes.now in
    let len : length whole.bytes.now ≡ zeros + kept_len = omega (arith, kept) in
    record {
      ends = omega (arith, kept, lies.ends, place);
      within = lies.within;
      are = number_is_behind whole.bytes.now number.bytes.now is
          ∙ ap (drop zeros) (lies.are ∙ ap (λ n. take n (drop whole.at blob)) len)
          ∙ drop-take zeros kept_len (drop whole.at blob)
          ∙ ap (take kept_len) (drop-drop zeros whole.at blob)
          ∙ ap (λ p. take kept_len (drop p blob)) (sym place);
    }
