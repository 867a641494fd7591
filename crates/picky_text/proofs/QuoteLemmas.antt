-- A text at its first backslash or quote.
use Rattle.std.proofs.Common.{◌≡◌, ℕ, ◌<◌, true, false, List, [], ◌∷◌, ◌++◌}
use Rattle.std.proofs.Common.{take, drop, refl, sym, ◌∙◌, ap, arith, codes}
use Rattle.std.proofs.lemmas.Bool.Decides.{nat_tests}
use Rattle.std.proofs.lemmas.List.{take-append-drop}
use Rattle.std.specs.List.{AllByRecursion, position_or_len}
use Rattle.std.specs.Str.{IsCharBoundary}
use Rattle.std.specs.Str.Pattern.{FindsTextPrefix, StripsPrefix}
use Rattle.picky_text.proofs.ListLaws.{none_before_first}
use Rattle.picky_text.specs.Quote.{is_special, quote}
use Rattle.picky_text.proofs.WordLaws.{boundary_of_first}

-- a backslash or a quote is ASCII
pub is_special_ascii : (b : ℕ) → is_special b ≡ true → b < 128
is_special_ascii b special = grind (arith, nat_tests)

-- a text may be cut before its first backslash or quote
pub boundary_of_special : (text : List ℕ) (at : ℕ) → at ≡ position_or_len is_special text
    → IsCharBoundary text at
boundary_of_special text at place = rw place (boundary_of_first is_special text is_special_ascii)

-- a front without backslashes and quotes stays
quote_after : (front more : List ℕ) → AllByRecursion (λ b. is_special b ≡ false) front
    → quote (front ++ more) ≡ front ++ quote more
quote_after [] more none = refl
quote_after (b ∷ front) more none = rw none.0 (ap (λ l. b ∷ l) (quote_after front more none.1))

-- so does what stands before the first of these
pub quote_plain_front : (text plain more : List ℕ) (at : ℕ) → at ≡ position_or_len is_special text
    → plain ≡ take at text → more ≡ drop at text → quote text ≡ plain ++ quote more
quote_plain_front text plain more at place plain_is more_is =
    let none : AllByRecursion (λ b. is_special b ≡ false) (take at text) =
    rw place (none_before_first is_special text) in
    rw (plain_is, more_is) (ap quote (sym (take-append-drop at text))
    ∙ quote_after (take at text) (drop at text) none)

-- sixteen quotes at a text's front, as `strip_prefix` finds them
pub quote_quotes : (text more : List ℕ)
    → StripsPrefix (FindsTextPrefix (codes "\"\"\"\"\"\"\"\"\"\"\"\"\"\"\"\"")) text more
    → quote text ≡ codes "\\\"\\\"\\\"\\\"\\\"\\\"\\\"\\\"\\\"\\\"\\\"\\\"\\\"\\\"\\\"\\\"" ++ quote more
quote_quotes text more (n, (len, is, cut), rest, all) =
    let begins : text ≡ codes "\"\"\"\"\"\"\"\"\"\"\"\"\"\"\"\"" ++ more =
    is ∙ ap (λ r. codes "\"\"\"\"\"\"\"\"\"\"\"\"\"\"\"\"" ++ r) (sym rest) in
    ap quote begins
