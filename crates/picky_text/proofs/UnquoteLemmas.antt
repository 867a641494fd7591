-- A quoted text at its front.
use Rattle.std.proofs.Common.{◌≡◌, ◌≢◌, ℕ, ◌<◌, true, false, List, [], ◌∷◌, ◌++◌, length, take, drop, refl, sym, ◌∙◌}
use Rattle.std.proofs.Common.{ap, arith, get_or}
use Rattle.std.proofs.lemmas.Bool.Decides.{nat_tests}
use Rattle.std.proofs.lemmas.List.{get_or_default, take-append-drop}
use Rattle.std.proofs.lemmas.List.Elements.{recursion_from_All}
use Rattle.std.proofs.lemmas.Str.{IsCharBoundary-after_ascii}
use Rattle.std.specs.List.{AllByRecursion, position_or_len}
use Rattle.std.specs.Str.{IsUtf8, IsCharBoundary}
use Rattle.picky_text.specs.Lines.{HasNo}
use Rattle.picky_text.specs.Quote.{unquote}
use Rattle.picky_text.specs.inner.Quote.{is_backslash}
use Rattle.picky_text.proofs.ListLaws.{none_before_first}
use Rattle.picky_text.proofs.QuoteLaws.{unquote_plain}
use Rattle.picky_text.proofs.WordLaws.{boundary_of_first}

-- a byte that is at no place stands nowhere
pub none_from_places : (b : ℕ) (bytes : List ℕ)
    → ((i : ℕ) → i < length bytes → get_or bytes i 0 ≢ b) → HasNo b bytes
none_from_places b bytes other =
    recursion_from_All (λ c. c ≢ b) bytes (λ k d lt same. other k lt
    (get_or_default bytes k 0 d lt ∙ same))

is_backslash_ascii : (b : ℕ) → is_backslash b ≡ true → b < 128
is_backslash_ascii b backslash = grind (arith, nat_tests)

-- a text may be cut before its first backslash
pub boundary_of_backslash : (text : List ℕ) (at : ℕ) → at ≡ position_or_len is_backslash text
    → IsCharBoundary text at
boundary_of_backslash text at place =
    rw place (boundary_of_first is_backslash text is_backslash_ascii)

-- after an ASCII byte that it begins with
pub boundary_after_first : (text rest : List ℕ) (b : ℕ) → IsUtf8 text → text ≡ b ∷ rest → b < 128
    → IsCharBoundary text 1
boundary_after_first text rest b utf8 begins ascii =
    IsCharBoundary-after_ascii text 0 utf8 (omega (arith, ap length begins)) (rw begins ascii)

-- and after its second byte, where that is ASCII
pub boundary_after_second : (text rest : List ℕ) (a b : ℕ) → IsUtf8 text → text ≡ a ∷ b ∷ rest
    → b < 128 → IsCharBoundary text 2
boundary_after_second text rest a b utf8 begins ascii =
    IsCharBoundary-after_ascii text 1 utf8 (omega (arith, ap length begins)) (rw begins ascii)

-- a front without backslashes stays
unquote_after : (front more : List ℕ) → AllByRecursion (λ b. is_backslash b ≡ false) front
    → unquote (front ++ more) ≡ front ++ unquote more
unquote_after [] more none = refl
unquote_after (b ∷ front) more none =
    unquote_plain b (front ++ more) none.0 ∙ ap (λ l. b ∷ l) (unquote_after front more none.1)

-- so does what stands before the first backslash
pub unquote_plain_front : (text plain more : List ℕ) (at : ℕ)
    → at ≡ position_or_len is_backslash text → plain ≡ take at text → more ≡ drop at text
    → unquote text ≡ plain ++ unquote more
unquote_plain_front text plain more at place plain_is more_is =
    let none : AllByRecursion (λ b. is_backslash b ≡ false) (take at text) =
    rw place (none_before_first is_backslash text) in
    rw (plain_is, more_is) (ap unquote (sym (take-append-drop at text))
    ∙ unquote_after (take at text) (drop at text) none)
