-- The strings of SSH's wire: four bytes of length, and then the bytes (RFC 4251, section 5).
use Rattle.std.specs.Prelude.{◌≡◌, Bool, true, false, if◌then◌else◌, List, ℕ, ◌++◌, ◌<◌, ◌^◌, length, IsUtf8}
use Rattle.std.specs.Prelude.{Ok, Err}
use Rattle.std.specs.Str.{is_utf8}
use Rattle.std.specs.Int.{w32, to_be_bytes}
use Rattle.std.proofs.Common.{sym, ◌∙◌, ap, subst, refl}
use Rattle.picky_wire_base.specs.Outcome.{and_then}
use Rattle.picky_wire_base.specs.Flaw.{Flaw, NotUtf8}
use Rattle.picky_wire_base.specs.Narrowed.{meant}
use Rattle.picky_wire_base.specs.Wire.{byte_array, string, string_of, text, utf8}
use Rattle.picky_wire_base.specs.carried.Wire.{IsUtf8-Decides}
use Rattle.picky_wire_base.specs.Numbers.{IsBytes}
use Rattle.picky_wire_base.proofs.Numbers.{bytes_in_front, uint32_spells, uint32_exact}

-- Bytes shorter than 2^32 are spelled by their string.
pub string_spells : (v : List ℕ) → length v < 2 ^ 32 → string.piece v (string_of v)
unfolding string string_of byte_array
string_spells v short =
    (length v, to_be_bytes w32 (length v), v, uint32_spells (length v) short, (refl, refl), refl)

-- That string is read back whatever follows.
pub string_reads_back : (v rest : List ℕ) → length v < 2 ^ 32
    → string.read (string_of v ++ rest) ≡ Ok (v, rest)
string_reads_back v rest short = string.complete v (string_of v) rest (string_spells v short)

-- A piece is the four bytes of the length and then the bytes, which are fewer than 2^32.
pub string_exact : (v bytes : List ℕ) → IsBytes bytes → string.piece v bytes
    → (bytes ≡ string_of v) × (length v < 2 ^ 32)
unfolding string string_of byte_array
string_exact v bytes each (n, x, y, number, (len, is), joined) =
    let front = bytes_in_front x y (subst IsBytes joined each) in
    let exact = uint32_exact n x front number in (
      joined ∙ ap (λ f. f ++ y) exact.0 ∙ ap (λ m. to_be_bytes w32 m ++ y) (sym len)
          ∙ ap (λ r. to_be_bytes w32 (length v) ++ r) is,
      subst (λ m. m < 2 ^ 32) (sym len) exact.1,
    )

-- UTF-8 text shorter than 2^32 is spelled by its string.
pub text_spells : (v : List ℕ) → length v < 2 ^ 32 → IsUtf8 v → text.piece v (string_of v)
unfolding text
text_spells v short utf8 = (v, string_spells v short, (utf8, refl))

-- That string is read back whatever follows.
pub text_reads_back : (v rest : List ℕ) → length v < 2 ^ 32 → IsUtf8 v
    → text.read (string_of v ++ rest) ≡ Ok (v, rest)
text_reads_back v rest short utf8 = text.complete v (string_of v) rest (text_spells v short utf8)

-- A piece is the text's string, and the text is UTF-8 and shorter than 2^32.
pub text_exact : (v bytes : List ℕ) → IsBytes bytes → text.piece v bytes
    → (bytes ≡ string_of v) × (length v < 2 ^ 32) × IsUtf8 v
unfolding text
text_exact v bytes each (a, spells, (utf8, same)) =
    let exact = string_exact v bytes each (subst (λ w. string.piece w bytes) (sym same) spells) in
    (exact.0, exact.1, subst IsUtf8 (sym same) utf8)

text_piece : (v bytes : List ℕ) → string.piece v bytes → IsUtf8 v → text.piece v bytes
unfolding text
text_piece v bytes spells utf8 = (v, spells, (utf8, refl))

not_utf8 : (v : List ℕ) → (IsUtf8 v → ⊥) → is_utf8 v ≡ false
not_utf8 v other = go (is_utf8 v) refl
  where
    go : (t : Bool) → is_utf8 v ≡ t → t ≡ false
    go true is = absurd (other ((IsUtf8-Decides v).0 is))
    go false is = refl

-- A string that is UTF-8 is read as text.
pub text_reads : (bytes v rest : List ℕ) → string.read bytes ≡ Ok (v, rest) → IsUtf8 v
    → text.read bytes ≡ Ok (v, rest)
text_reads bytes v rest is utf8 =
    let fits = string.sound bytes v rest is in
    ap text.read fits.2 ∙ text.complete v fits.0 rest (text_piece v fits.0 fits.1 utf8)

-- One that isn't is refused for that.
pub text_refuses : (bytes v rest : List ℕ) → string.read bytes ≡ Ok (v, rest) → (IsUtf8 v → ⊥)
    → text.read bytes ≡ Err NotUtf8
unfolding text
text_refuses bytes v rest is other =
    let refused = not_utf8 v other in
    ap (λ r. and_then r (meant (utf8 NotUtf8))) is
    ∙ ap (λ t. and_then (if t then Ok v else Err NotUtf8) (λ b. Ok (b, rest))) refused

-- What is refused as a string is refused as text.
pub text_stuck : (bytes : List ℕ) (e : Flaw) → string.read bytes ≡ Err e → text.read bytes ≡ Err e
unfolding text
text_stuck bytes e refused = ap (λ r. and_then r (meant (utf8 NotUtf8))) refused
