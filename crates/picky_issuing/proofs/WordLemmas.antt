-- Lemmas on the words of a command line, two by two.
use Rattle.std.proofs.Common.{◌≡◌, ℕ, ◌-◌, ◌<◌, ◌≤◌, List, [], ◌∷◌, length, get_or, take, drop, Option, Some, None, refl, sym}
use Rattle.std.proofs.Common.{◌∙◌, ap, subst, arith}
use Rattle.std.proofs.lemmas.List.{take_all}
use Rattle.picky_issuing.specs.declared.options.CertOptions.{CertOptions}
use Rattle.picky_issuing.specs.Steps.{some_then}
use Rattle.picky_issuing.specs.OptionWord.{option_of_word}
use Rattle.picky_issuing.specs.Options.{with_option, with_options}

-- two steps are one
steps : {A B C : Type 0} (o : Option A) (step : A → Option B) (later : B → Option C)
    → some_then o (λ x. some_then (step x) later) ≡ some_then (some_then o step) later
steps (Some x) step later = refl
steps None step later = refl

-- the first option and its value, and then the rest
pub option_first : (xs : List (List ℕ)) (n : ℕ) (o : CertOptions) (word value : List ℕ) → 2 ≤ length xs → n ≡ length xs - 2
    → word ≡ get_or xs 0 word → value ≡ get_or xs 1 value
    → with_options xs o
    ≡ some_then (some_then (option_of_word word) (λ option. with_option option value o)) (with_options (take n (drop 2 xs)))
unfolding with_options
option_first [] n o word value two rest first second = absurd (omega (arith, two))
option_first (a ∷ []) n o word value two rest first second = absurd (omega (arith, two))
option_first (a ∷ b ∷ more) n o word value two rest first second =
    let whole : take n more ≡ more = take_all n more (omega (arith, rest)) in
    rw (first, second, whole)
    (steps (option_of_word a) (λ option. with_option option b o) (with_options more))

-- where the option and its value are taken, the rest is left
pub option_taken : (xs : List (List ℕ)) (n : ℕ) (o more : CertOptions) (word value spelled : List ℕ) (all given : Option CertOptions)
    → 2 ≤ length xs → n ≡ length xs - 2 → word ≡ get_or xs 0 word → value ≡ get_or xs 1 value → spelled ≡ word
    → given ≡ some_then (option_of_word spelled) (λ option. with_option option value o) → given ≡ Some more
    → with_options xs o ≡ all → with_options (take n (drop 2 xs)) more ≡ all
option_taken xs n o more word value spelled all given two rest first second same is taken whole =
    let W : List ℕ → Type 0 = λ w. given ≡ some_then (option_of_word w) (λ option. with_option option value o) in
    let some : some_then (option_of_word word) (λ option. with_option option value o) ≡ Some more = sym (subst W same is) ∙ taken in
    let later : Option CertOptions → Option CertOptions = λ g. some_then g (with_options (take n (drop 2 xs))) in
    sym (ap later some) ∙ sym (option_first xs n o word value two rest first second) ∙ whole

-- where they aren't, nothing is asked for
pub option_refused : (xs : List (List ℕ)) (o : CertOptions) (word value spelled : List ℕ) (all given : Option CertOptions)
    → 2 ≤ length xs → word ≡ get_or xs 0 word → value ≡ get_or xs 1 value → spelled ≡ word
    → given ≡ some_then (option_of_word spelled) (λ option. with_option option value o) → given ≡ None
    → with_options xs o ≡ all → None ≡ all
option_refused xs o word value spelled all given two first second same is refused whole =
    let W : List ℕ → Type 0 = λ w. given ≡ some_then (option_of_word w) (λ option. with_option option value o) in
    let none : some_then (option_of_word word) (λ option. with_option option value o) ≡ None = sym (subst W same is) ∙ refused in
    let later : Option CertOptions → Option CertOptions = λ g. some_then g (with_options (take (length xs - 2) (drop 2 xs))) in
    sym (ap later none) ∙ sym (option_first xs (length xs - 2) o word value two refl first second) ∙ whole

-- no word is left
pub words_end : (xs : List (List ℕ)) (o : CertOptions) → length xs ≡ 0 → with_options xs o ≡ Some o
unfolding with_options
words_end [] o none = refl
words_end (a ∷ xs) o none = absurd (omega (arith, none))

-- one word is left
pub word_alone : (xs : List (List ℕ)) (o : CertOptions) → length xs < 2 → 0 < length xs → with_options xs o ≡ None
unfolding with_options
word_alone [] o few some = absurd (omega (arith, some))
word_alone (a ∷ []) o few some = refl
word_alone (a ∷ b ∷ xs) o few some = absurd (omega (arith, few))
