-- A text says options exactly where it is a list of them.
use Rattle.std.proofs.Common.{◌≡◌, ◌⊎◌, ℕ, ◌==◌, ◌&&◌, Bool, true, false, not, List, [], ◌∷◌, ◌++◌, length, drop}
use Rattle.std.proofs.Common.{Option, Some, None, refl, sym, ◌∙◌, ap, inl, inr, subst}
use Rattle.std.proofs.lemmas.Bool.{and_right, cases_Bool, eqb-true, ne_eqb}
use Rattle.std.proofs.lemmas.List.{append-nil, append_assoc}
use Rattle.std.specs.List.{AllByRecursion}
use Rattle.std.specs.Option.{option_map}
use Rattle.picky_authorized.specs.declared.auth_option.AuthOption.{AuthOption}
use Rattle.picky_authorized.specs.declared.quotes.PartEnd.TheVariants.{Comma}
use Rattle.picky_authorized.specs.OptionText.{IsClosed, IsOptionText, escaped, is_name_byte, option_in, value_spelled}
use Rattle.picky_authorized.specs.Options.{AreOptions, onto_options, options_in}
use Rattle.picky_authorized.specs.Quotes.{ends_at, front_from, front_outside, rest_outside}
use Rattle.picky_authorized.proofs.OptionLaws.{closed_shorter, option_is, option_says}
use Rattle.picky_authorized.proofs.OptionLemmas.{options_first, rest_options}
use Rattle.picky_authorized.proofs.QuoteLemmas.{rest_begins, split_whole}

-- ---- the front of an option's text

abbrev comma : ℕ → Bool
comma b = ends_at Comma b

-- the byte before what follows
abbrev last_of : (before : ℕ) → List ℕ → ℕ
last_of before [] = before
last_of before (b ∷ bs) = last_of b bs

-- neither a comma nor a quote
abbrev IsPlain : ℕ → Type 0
IsPlain b = ((b == 44) ≡ false) × ((b == 34) ≡ false)

plain_run : (before : ℕ) (front more : List ℕ) → AllByRecursion IsPlain front
    → front_from comma false before (front ++ more) ≡ front ++ front_from comma false (last_of before front) more
plain_run before [] more each = refl
plain_run before (b ∷ front) more each = rw (each.0.0, each.0.1) (ap (λ l. b ∷ l) (plain_run b front more each.1))

letter_is_plain : (b : ℕ) → is_name_byte b ≡ true → IsPlain b
letter_is_plain b is =
    let P : ℕ → Type 0 = λ c. is_name_byte c ≡ true in (
      ne_eqb b 44 (λ same. cc (subst P same is)),
      ne_eqb b 34 (λ same. cc (subst P same is)),
    )

letters_are_plain : (name : List ℕ) → AllByRecursion (λ b. is_name_byte b ≡ true) name → AllByRecursion IsPlain name
letters_are_plain [] each = tt
letters_are_plain (b ∷ name) each = (letter_is_plain b each.0, letters_are_plain name each.1)

-- between quotes nothing ends it, up to the quote that no backslash stands before
quoted_run : (before : ℕ) (value more : List ℕ) → IsClosed (Some value) → (value ≡ [] → (before == 92) ≡ false)
    → front_from comma true before (escaped value ++ 34 ∷ more)
    ≡ escaped value ++ 34 ∷ front_from comma false 34 more
quoted_run before [] more closed last =
    rw (last refl) refl
quoted_run before (b ∷ value) more closed last = elim (cases_Bool (b == 34)) [
  | inl quote ↦
      rw quote
      (ap (λ l. 92 ∷ 34 ∷ l) (quoted_run 34 value more (closed_shorter b value closed) (λ _. refl)))
  | inr other ↦
      let behind : value ≡ [] → (b == 92) ≡ false =
      λ none. ne_eqb b 92 (λ same. subst (λ v. IsClosed (Some (b ∷ v))) none closed same) in
      let inside : (comma b && not true) ≡ false = and_right (comma b) false refl in
      rw (other, inside, other) (ap (λ l. b ∷ l) (quoted_run b value more (closed_shorter b value closed) behind))
]

-- what may follow an option: nothing, or a comma
abbrev MayFollow : List ℕ → Type 0
MayFollow more = (more ≡ []) ⊎ ((rest : List ℕ) × (more ≡ 44 ∷ rest))

stops_there : (before : ℕ) (more : List ℕ) → MayFollow more → front_from comma false before more ≡ []
stops_there before more (inl none) = ap (front_from comma false before) none
stops_there before more (inr (rest, is)) = ap (front_from comma false before) is

valued_run : (before : ℕ) (value : Option (List ℕ)) (more : List ℕ) → IsClosed value → MayFollow more
    → front_from comma false before (value_spelled value ++ more) ≡ value_spelled value
valued_run before None more closed follows = stops_there before more follows
valued_run before (Some value) more closed follows =
    ap (λ l. 61 ∷ 34 ∷ l)
    (ap (front_from comma true 34) (append_assoc (escaped value) (34 ∷ []) more)
    ∙ quoted_run 34 value more closed (λ _. refl)
    ∙ ap (λ l. escaped value ++ 34 ∷ l) (stops_there 34 more follows))

option_run : (text : List ℕ) (o : AuthOption) (more : List ℕ) → IsOptionText text o → MayFollow more
    → front_from comma false 0 (text ++ more) ≡ text
option_run text o more is follows =
    ap (λ t. front_from comma false 0 (t ++ more)) is.spelled
    ∙ ap (front_from comma false 0) (append_assoc is.name (value_spelled o.value) more)
    ∙ plain_run 0 is.name (value_spelled o.value ++ more) (letters_are_plain is.name is.letters)
    ∙ ap (λ l. is.name ++ l) (valued_run (last_of 0 is.name) o.value more is.closed follows)
    ∙ sym is.spelled

-- so it is the front of a text that it begins, and what follows it is the rest
option_front : (whole text more : List ℕ) (o : AuthOption) → whole ≡ text ++ more → IsOptionText text o → MayFollow more
    → (front_outside (ends_at Comma) whole ≡ text) × (rest_outside (ends_at Comma) whole ≡ more)
unfolding front_outside rest_outside
option_front whole text more o is said follows =
    let front : front_from comma false 0 whole ≡ text = ap (front_from comma false 0) is ∙ option_run text o more said follows in
    (front, ap (λ f. drop (length f) whole) front ∙ ap (drop (length text)) is ∙ drop_front text more)
  where
    drop_front : (xs ys : List ℕ) → drop (length xs) (xs ++ ys) ≡ ys
    drop_front [] ys = refl
    drop_front (x ∷ xs) ys = drop_front xs ys

-- ---- options

pub options_are : (text : List ℕ) (os : List AuthOption) → AreOptions text os → options_in text ≡ Some os
options_are text [] are = absurd are
options_are text (o ∷ []) are =
    let cut = option_front text text [] o (sym (append-nil text)) are (inl refl) in
    options_first text
    ∙ ap (λ f. onto_options (option_in f) (rest_options (rest_outside (ends_at Comma) text))) cut.0
    ∙ ap (λ r. onto_options (option_in text) (rest_options r)) cut.1
    ∙ ap (λ p. onto_options p (Some [])) (option_is text o are)
options_are text (o ∷ next ∷ more) (front, rest, is, said, others) =
    let cut = option_front text front (44 ∷ rest) o is said (inr (rest, refl)) in
    options_first text
    ∙ ap (λ f. onto_options (option_in f) (rest_options (rest_outside (ends_at Comma) text))) cut.0
    ∙ ap (λ r. onto_options (option_in front) (rest_options r)) cut.1
    ∙ ap (λ p. onto_options p (options_in rest)) (option_is front o said)
    ∙ ap (option_map (λ os. o ∷ os)) (options_are rest (next ∷ more) others)

-- what is said of the first, and of those behind it
onto_says : (first : Option AuthOption) (more : Option (List AuthOption)) (os : List AuthOption)
    → onto_options first more ≡ Some os
    → (o : AuthOption) × (others : List AuthOption) × (first ≡ Some o) × (more ≡ Some others) × (o ∷ others ≡ os)
onto_says None more os is = absurd (cc is)
onto_says (Some o) None os is = absurd (cc is)
onto_says (Some o) (Some others) os is = (o, others, refl, refl, cc is)

first_says : (text : List ℕ) (os : List AuthOption) → options_in text ≡ Some os
    → (o : AuthOption) × (others : List AuthOption) × (option_in (front_outside (ends_at Comma) text) ≡ Some o)
    × (rest_options (rest_outside (ends_at Comma) text) ≡ Some others) × (o ∷ others ≡ os)
first_says text os is =
    onto_says (option_in (front_outside (ends_at Comma) text)) (rest_options (rest_outside (ends_at Comma) text)) os
    (sym (options_first text) ∙ is)

-- one option is the whole text
alone : (text : List ℕ) (p : AuthOption) (rest : List ℕ) → rest_outside (ends_at Comma) text ≡ rest
    → IsOptionText (front_outside (ends_at Comma) text) p → rest_options rest ≡ Some [] → IsOptionText text p
alone text p [] at said behind =
    let front : List ℕ = front_outside (ends_at Comma) text in
    subst (λ t. IsOptionText t p) (sym (append-nil front) ∙ ap (λ r. front ++ r) (sym at) ∙ split_whole (ends_at Comma) text) said
alone text p (b ∷ more) at said behind = let first = first_says more [] behind in absurd (cc first.4)

-- and others stand behind a comma
with_others : (text : List ℕ) (p next : AuthOption) (others : List AuthOption) (rest : List ℕ)
    → rest_outside (ends_at Comma) text ≡ rest
    → ((tail : List ℕ) → options_in tail ≡ Some (next ∷ others) → AreOptions tail (next ∷ others))
    → IsOptionText (front_outside (ends_at Comma) text) p → rest_options rest ≡ Some (next ∷ others)
    → AreOptions text (p ∷ next ∷ others)
unfolding front_outside rest_outside
with_others text p next others [] at more said behind = absurd (cc behind)
with_others text p next others (b ∷ tail) at more said behind =
    let front : List ℕ = front_outside (ends_at Comma) text in
    let comma_there : b ≡ 44 = eqb-true b 44 (rest_begins (ends_at Comma) false 0 text b tail at) in
    let whole : text ≡ front ++ 44 ∷ tail =
    sym (split_whole (ends_at Comma) text) ∙ ap (λ r. front ++ r) at ∙ ap (λ c. front ++ c ∷ tail) comma_there in
    (front, tail, whole, said, more tail behind)

pub options_say : (text : List ℕ) (os : List AuthOption) → options_in text ≡ Some os → AreOptions text os
options_say text [] is = let first = first_says text [] is in absurd (cc first.4)
options_say text (p ∷ []) is =
    let first = first_says text (p ∷ []) is in
    let same_one : first.0 ≡ p = cc first.4 in
    let same_rest : first.1 ≡ [] = cc first.4 in
    alone text p (rest_outside (ends_at Comma) text) refl
    (option_says (front_outside (ends_at Comma) text) p (first.2 ∙ ap Some same_one)) (first.3 ∙ ap Some same_rest)
options_say text (p ∷ next ∷ others) is =
    let first = first_says text (p ∷ next ∷ others) is in
    let same_one : first.0 ≡ p = cc first.4 in
    let same_rest : first.1 ≡ next ∷ others = cc first.4 in
    with_others text p next others (rest_outside (ends_at Comma) text) refl
    (λ tail says. options_say tail (next ∷ others) says)
    (option_says (front_outside (ends_at Comma) text) p (first.2 ∙ ap Some same_one)) (first.3 ∙ ap Some same_rest)
