-- Text that is parted at a byte of ASCII is text on both sides, and a word without white space has no LF.
use Rattle.std.proofs.Common.{◌≡◌, ◌≢◌, ◌<◌, ◌+◌, ◌∙◌, ◌++◌, ◌∷◌, ◌==◌, ◌||◌, ℕ, Bool, List, []}
use Rattle.std.proofs.Common.{true, false, ap, arith, drop, length, refl, slice_index, subst, sym}
use Rattle.std.proofs.lemmas.Bool.{ne_eqb}
use Rattle.std.proofs.lemmas.List.{append_assoc, drop_at, get_or-append-add, length-append, take_at}
use Rattle.std.proofs.lemmas.Str.{IsCharBoundary-after_ascii, IsCharBoundary-before_ascii, IsUtf8-drop, IsUtf8-take, encodes-chars}
use Rattle.std.proofs.lemmas.Str.Pattern.{NoCharPasses-char}
use Rattle.std.specs.Char.{is_whitespace}
use Rattle.std.specs.List.{list_any}
use Rattle.std.specs.Str.{IsUtf8, NonePass, chars}
use Rattle.picky_text.specs.Lines.{HasNo}
use Rattle.picky_text.proofs.UnquoteLemmas.{none_from_places}

pub sides_are_text : (b : ℕ) (front rest : List ℕ) → b < 128 → IsUtf8 (front ++ b ∷ rest) → IsUtf8 front × IsUtf8 rest
sides_are_text b front rest ascii utf8 =
    let n : ℕ = length front in
    let text : List ℕ = front ++ b ∷ rest in
    let len : length text ≡ n + length (b ∷ rest) = length-append front (b ∷ rest) in
    let there : slice_index text n ≡ b = ap (slice_index text) (omega arith) ∙ get_or-append-add front (b ∷ rest) 0 0 in
    let below : n < length text = omega (arith, len) in
    let before = IsCharBoundary-before_ascii text n below (omega (arith, there, ascii)) in
    let after = IsCharBoundary-after_ascii text n utf8 below (omega (arith, there, ascii)) in
    let ended : length (front ++ b ∷ []) ≡ n + 1 = length-append front (b ∷ []) in
    let behind : drop (n + 1) text ≡ rest =
    ap (drop (n + 1)) (sym (append_assoc front (b ∷ []) rest)) ∙ drop_at (front ++ b ∷ []) rest (n + 1) ended in (
      subst IsUtf8 (take_at front (b ∷ rest) n refl) (IsUtf8-take text n utf8 before),
      subst IsUtf8 behind (IsUtf8-drop text (n + 1) utf8 after),
    )

or_none : (a b : Bool) → (a || b) ≡ false → (a ≡ false) × (b ≡ false)
or_none false b is = (refl, is)
or_none true b is = absurd (cc is)

lf_none : (cs : List ℕ) → list_any is_whitespace cs ≡ false → NonePass (λ c. c == 10) cs
lf_none [] none = tt
lf_none (c ∷ cs) none =
    let parts = or_none (is_whitespace c) (list_any is_whitespace cs) none in
    let other : c ≢ 10 = λ same. let white : is_whitespace c ≡ true = ap is_whitespace same in cc (white, parts.0) in
    (ne_eqb c 10 other, lf_none cs parts.1)

pub no_white_no_lf : (text : List ℕ) → IsUtf8 text → list_any is_whitespace (chars text) ≡ false → HasNo 10 text
no_white_no_lf text utf8 none =
    none_from_places 10 text
    (λ i inside. NoCharPasses-char 10 text i (chars text, encodes-chars text utf8, lf_none (chars text) none) (omega arith) inside)
