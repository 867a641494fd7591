-- The words are judged one after another.
use Rattle.std.proofs.Common.{◌≡◌, ◌⊎◌, ◌+◌, ◌<◌, ◌≤◌, ◌++◌, ◌∷◌, ◌∙◌, ℕ, List, [], Result, Ok, Err, append_assoc, add-one, ap, arith, drop, get_or, inl, inr, length, refl, subst, sym}
use Rattle.std.specs.Prelude.{map}
use Rattle.std.proofs.Math.Seq.{drop-cons}
use Rattle.std.proofs.lemmas.List.{append-nil, length-drop, nil_from_length}
use Rattle.picky_wire_base.specs.Outcome.{map_ok}
use Rattle.picky_certify.specs.Texts.{word_judged, words_judged}
use Rattle.picky_certify.specs.declared.error.CertifyError.{CertifyError}
use Rattle.picky_certify.specs.declared.error.CertifyError.TheVariants as errors

-- the texts in front, and those that are come to
abbrev pub behind : (front : List (List ℕ)) → Result (List (List ℕ)) CertifyError → Result (List (List ℕ)) CertifyError
behind front r = map_ok (λ more. front ++ more) r

pub nothing_in_front : (r : Result (List (List ℕ)) CertifyError) → behind [] r ≡ r
nothing_in_front (Ok more) = refl
nothing_in_front (Err e) = refl

one_more : (front : List (List ℕ)) (text : List ℕ) (r : Result (List (List ℕ)) CertifyError)
    → behind (front ++ text ∷ []) r ≡ behind front (map_ok (λ more. text ∷ more) r)
one_more front text (Ok more) = ap Ok (append_assoc front (text ∷ []) more)
one_more front text (Err e) = refl

pub word_taken : (front more : List (List ℕ)) (word text : List ℕ) (all : Result (List (List ℕ)) CertifyError)
    → word_judged word ≡ Ok text → behind front (words_judged (word ∷ more)) ≡ all
    → behind (front ++ text ∷ []) (words_judged more) ≡ all
unfolding words_judged
word_taken front more word text all judged is = one_more front text (words_judged more) ∙ rw judged at is

pub word_refused : (front more : List (List ℕ)) (word : List ℕ) (e : CertifyError) (all : Result (List (List ℕ)) CertifyError)
    → word_judged word ≡ Err e → behind front (words_judged (word ∷ more)) ≡ all → all ≡ Err e
unfolding words_judged
word_refused front more word e all judged is = sym (rw judged at is)

pub words_end : (front : List (List ℕ)) (all : Result (List (List ℕ)) CertifyError) → behind front (words_judged []) ≡ all
    → all ≡ Ok front
unfolding words_judged
words_end front all is = sym is ∙ ap Ok (append-nil front)

-- ---- the same of what is seen as words

pub next_taken : {X : Type 0} (now : X → List ℕ) (xs : List X) (i : ℕ) (d : X) (text : List ℕ) (texts pushed : List (List ℕ))
    (all : Result (List (List ℕ)) CertifyError) → i < length xs → word_judged (now (get_or xs i d)) ≡ Ok text
    → pushed ≡ texts ++ text ∷ [] → behind texts (words_judged (map now (drop i xs))) ≡ all
    → behind pushed (words_judged (map now (drop (i + 1) xs))) ≡ all
next_taken now xs i d text texts pushed all within judged is_pushed is =
    let first : drop i xs ≡ get_or xs i d ∷ drop (i + 1) xs = rw add-one (drop-cons xs i d within) in
    let here = subst (λ r. behind texts (words_judged (map now r)) ≡ all) first is in
    subst (λ p. behind p (words_judged (map now (drop (i + 1) xs))) ≡ all) (sym is_pushed)
    (word_taken texts (map now (drop (i + 1) xs)) (now (get_or xs i d)) text all judged here)

pub next_refused : {X : Type 0} (now : X → List ℕ) (xs : List X) (i : ℕ) (d : X) (e : CertifyError) (texts : List (List ℕ))
    (all : Result (List (List ℕ)) CertifyError) → i < length xs
    → (e ≡ errors.NoMemory) ⊎ (word_judged (now (get_or xs i d)) ≡ Err e)
    → behind texts (words_judged (map now (drop i xs))) ≡ all → (e ≡ errors.NoMemory) ⊎ (all ≡ Err e)
next_refused now xs i d e texts all within (inl want) is = inl want
next_refused now xs i d e texts all within (inr judged) is =
    let first : drop i xs ≡ get_or xs i d ∷ drop (i + 1) xs = rw add-one (drop-cons xs i d within) in
    let here = subst (λ r. behind texts (words_judged (map now r)) ≡ all) first is in
    inr (word_refused texts (map now (drop (i + 1) xs)) (now (get_or xs i d)) e all judged here)

pub none_left : {X : Type 0} (now : X → List ℕ) (xs : List X) (i : ℕ) (texts : List (List ℕ)) (all : Result (List (List ℕ)) CertifyError)
    → length xs ≤ i → behind texts (words_judged (map now (drop i xs))) ≡ all → all ≡ Ok texts
none_left now xs i texts all past is =
    let none : drop i xs ≡ [] = nil_from_length (drop i xs) (omega (arith, length-drop i xs)) in
    words_end texts all (subst (λ r. behind texts (words_judged (map now r)) ≡ all) none is)
