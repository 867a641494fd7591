-- The first line of a text, with its end.
use Rattle.std.proofs.Common.{◌≡◌, ◌<◌, ◌-◌, ℕ, List, [], ◌∷◌, ◌++◌, length, map, take, sym, ◌∙◌, ap, arith}
use Rattle.std.proofs.lemmas.List.{append_assoc, append-nil, length-append, map-append, take_at}
use Rattle.picky_text.specs.Lines.{HasNo}
use Rattle.picky_issuing.specs.Parts.{lines_with_ends}
use Rattle.picky_issuing.proofs.PartsLemmas.{lines_at_lf, one_line_left}

-- up to its LF
pub first_ended : (text line after : List ℕ) → text ≡ line ++ 10 ∷ after → HasNo 10 line
    → lines_with_ends text ≡ take (length text - length after) text ∷ lines_with_ends after
first_ended text line after is none =
    let whole : List ℕ = line ++ 10 ∷ [] in
    let joined : text ≡ whole ++ after = is ∙ sym (append_assoc line (10 ∷ []) after) in
    let long : length whole ≡ length text - length after =
    omega (arith, ap length joined, length-append whole after) in
    let front : take (length text - length after) text ≡ whole =
    ap (take (length text - length after)) joined ∙ take_at whole after (length text - length after) long in
    ap lines_with_ends is ∙ lines_at_lf line after none ∙ ap (λ l. l ∷ lines_with_ends after) (sym front)

-- or all of it
pub first_alone : (text : List ℕ) → 0 < length text → HasNo 10 text → lines_with_ends text ≡ text ∷ []
first_alone [] some none = absurd (omega (arith, some))
first_alone (b ∷ text) some none = one_line_left b text none

-- the lines found so far, and those of what is left
pub one_more_line : {A : Type 0} → (see : A → List ℕ) (found more : List A) (line : A) (rest after text : List ℕ)
    → more ≡ found ++ line ∷ [] → map see found ++ lines_with_ends rest ≡ lines_with_ends text
    → lines_with_ends rest ≡ see line ∷ lines_with_ends after → map see more ++ lines_with_ends after ≡ lines_with_ends text
one_more_line see found more line rest after text is before at =
    ap (λ l. map see l ++ lines_with_ends after) is ∙ ap (λ l. l ++ lines_with_ends after) (map-append see found (line ∷ []))
    ∙ append_assoc (map see found) (see line ∷ []) (lines_with_ends after) ∙ ap (λ l. map see found ++ l) (sym at) ∙ before

pub no_more_lines : {A : Type 0} → (see : A → List ℕ) (found : List A) (rest text : List ℕ) → rest ≡ []
    → map see found ++ lines_with_ends rest ≡ lines_with_ends text → map see found ≡ lines_with_ends text
no_more_lines see found rest text empty are =
    sym (append-nil (map see found)) ∙ ap (λ l. map see found ++ lines_with_ends l) (sym empty) ∙ are
