-- What more answers change, and what is asked.
use Rattle.std.proofs.Common.{◌≡◌, ◌∙◌, ◌++◌, ℕ, Bool, true, false, List, [], ◌∷◌, length, refl, sym, ap}
use Rattle.std.specs.Prelude.{◌&&◌, ◌↔◌, if◌then◌else◌, Option, None, Some, Ok, Err}
use Rattle.std.specs.Cmp.{unsigned_Decides}
use Rattle.std.specs.List.{list_all}
use Rattle.std.proofs.lemmas.Slice.Eq.{bytes_eq-Decides}
use Rattle.picky_suite.specs.Meanings.{Meanings}
use Rattle.picky_ask.specs.declared.lookup.Mode.{Mode}
use Rattle.picky_ask.specs.declared.missing.Missing.TheVariants as missings
use Rattle.picky_ask.specs.declared.question.Head.{Head}
use Rattle.picky_ask.specs.declared.question.Head.TheVariants as heads
use Rattle.picky_ask.specs.declared.question.Question.{Question}
use Rattle.picky_ask.specs.declared.question.Entry.{Entry}
use Rattle.picky_ask.specs.Answered.{answered}
use Rattle.picky_ask.specs.Known.{Agrees, Gives, agrees, gives, meant, with_hmac}
use Rattle.picky_ask.specs.Lookup.{answer_to, are_paired, derivation, exchange, first_side, is_side, judged, of_len, or_later, paired, side}
use Rattle.picky_ask.specs.Same.{same_question}
use Rattle.picky_ask.specs.carried.Tests.{both_true, first_of_and, second_of_and, same_of}
use Rattle.picky_ask.proofs.KnownLemmas.{IsExchanged, derivation_so, derivation_asks, exchange_so, exchange_asks}
use Rattle.picky_ask.proofs.SameLemmas.{same_question_self}
use Rattle.picky_ask.proofs.TurnLemmas.{place_more}

-- ---- more answers behind

later_answer : (b : Bool) (x a : List ℕ) (later more : Option (List ℕ)) → (later ≡ Some a → more ≡ Some a)
    → (if b then Some x else later) ≡ Some a → (if b then Some x else more) ≡ Some a
later_answer true x a later more goes found = found
later_answer false x a later more goes found = goes found

pub answer_more : (q : Question) (entries more : List Entry) (a : List ℕ) → answer_to q entries ≡ Some a
    → answer_to q (entries ++ more) ≡ Some a
unfolding answer_to
answer_more q [] more a found = cc found
answer_more q (e ∷ entries) more a found =
    later_answer (same_question q e.question) e.answer a (answer_to q entries) (answer_to q (entries ++ more))
    (answer_more q entries more a) found

later_side : (o later more : Option (List ℕ)) (x : List ℕ) → (later ≡ Some x → more ≡ Some x) → or_later o later ≡ Some x
    → or_later o more ≡ Some x
later_side None later more x goes found = goes found
later_side (Some y) later more x goes found = found

first_more : (mode : Mode) (key iv text x : List ℕ) (entries more : List Entry) → first_side mode key iv text entries ≡ Some x
    → first_side mode key iv text (entries ++ more) ≡ Some x
unfolding first_side
first_more mode key iv text x [] more found = cc found
first_more mode key iv text x (e ∷ entries) more found =
    later_side (side mode key iv text e) (first_side mode key iv text entries) (first_side mode key iv text (entries ++ more)) x
    (first_more mode key iv text x entries more) found

pub derivation_more : (q : Question) (n : ℕ) (entries more : List Entry) (a : List ℕ) → derivation q n entries ≡ Ok a
    → derivation q n (entries ++ more) ≡ Ok a
derivation_more q n entries more a is =
    let so = derivation_so q n (answer_to q entries) a is in
    ap (judged q (of_len n)) (answer_more q entries more a so.0)
    ∙ ap (λ b. if b then Ok a else Err missings.WrongLength) ((unsigned_Decides (length a) n).1 so.1)

side_self : (o : Option (List ℕ)) (x : List ℕ) → o ≡ Some x → is_side o x ≡ true
side_self o x is = ap (λ s. is_side s x) is ∙ (bytes_eq-Decides x x).1 refl

paired_is : (mode : Mode) (key iv text : List ℕ) (entries : List Entry) (a : List ℕ) → IsExchanged mode key iv text entries a
    → paired mode key iv text entries a ≡ Ok a
unfolding paired are_paired
paired_is mode key iv text entries a so =
    let one = is_side (first_side mode key iv text entries) a in
    let other = is_side (first_side mode key iv a entries) text in
    ap (λ b. if b then (if one && other then Ok a else Err missings.Contradiction) else Err missings.WrongLength)
    ((unsigned_Decides (length a) (length text)).1 so.len)
    ∙ ap (λ b. if b then Ok a else Err missings.Contradiction)
    (both_true one other (side_self (first_side mode key iv text entries) a so.there) (side_self (first_side mode key iv a entries) text so.back))

pub exchange_more : (mode : Mode) (key iv : List ℕ) (q : Question) (entries more : List Entry) (a : List ℕ)
    → exchange mode key iv q entries ≡ Ok a → exchange mode key iv q (entries ++ more) ≡ Ok a
exchange_more mode key iv q entries more a is =
    let so = exchange_so mode key iv q entries (answer_to q entries) a is in
    ap (judged q (paired mode key iv q.text (entries ++ more))) (answer_more q entries more a so.0)
    ∙ paired_is mode key iv q.text (entries ++ more) a (record {
      len = so.1.len;
      there = first_more mode key iv q.text a entries more so.1.there;
      back = first_more mode key iv a q.text entries more so.1.back;
    })

pub ruleset more_laws = (answer_more, place_more, derivation_more, exchange_more)

-- ---- what is asked

pub derivation_asked : (q : Question) (n : ℕ) (entries : List Entry) → answer_to q entries ≡ None
    → derivation q n entries ≡ Err (missings.Asked q)
derivation_asked q n entries none = ap (judged q (of_len n)) none

pub derivation_asked_so : (q r : Question) (n : ℕ) (entries : List Entry) → derivation q n entries ≡ Err (missings.Asked r)
    → (q ≡ r) × (answer_to q entries ≡ None)
derivation_asked_so q r n entries is = go (answer_to q entries) refl
  where
    go : (o : Option (List ℕ)) → answer_to q entries ≡ o → (q ≡ r) × (answer_to q entries ≡ None)
    go o same = let so = derivation_asks q r n o (ap (judged q (of_len n)) (sym same) ∙ is) in (so.0, same ∙ so.1)

pub exchange_asked : (mode : Mode) (key iv : List ℕ) (q : Question) (entries : List Entry) → answer_to q entries ≡ None
    → exchange mode key iv q entries ≡ Err (missings.Asked q)
exchange_asked mode key iv q entries none = ap (judged q (paired mode key iv q.text entries)) none

pub exchange_asked_so : (mode : Mode) (key iv : List ℕ) (q r : Question) (entries : List Entry)
    → exchange mode key iv q entries ≡ Err (missings.Asked r) → (q ≡ r) × (answer_to q entries ≡ None)
exchange_asked_so mode key iv q r entries is = go (answer_to q entries) refl
  where
    go : (o : Option (List ℕ)) → answer_to q entries ≡ o → (q ≡ r) × (answer_to q entries ≡ None)
    go o same =
        let so = exchange_asks mode key iv q r entries o (ap (judged q (paired mode key iv q.text entries)) (sym same) ∙ is) in
        (so.0, same ∙ so.1)

not_none : (b : Bool) (x : List ℕ) (later : Option (List ℕ)) → (later ≡ None → ⊥) → (if b then Some x else later) ≡ None → ⊥
not_none true x later some none = cc none
not_none false x later some none = some none

-- a question that was answered is not asked
pub asked_once : (e : Entry) (entries more : List Entry) → answer_to e.question (entries ++ e ∷ more) ≡ None → ⊥
unfolding answer_to
asked_once e [] more none =
    let found : Some e.answer ≡ None =
    sym (ap (λ b. if b then Some e.answer else answer_to e.question more) (same_question_self e.question)) ∙ none in
    cc found
asked_once e (x ∷ entries) more none =
    not_none (same_question e.question x.question) x.answer (answer_to e.question (entries ++ e ∷ more)) (asked_once e entries more) none

passes_on : (b : Bool) (x : List ℕ) (later : Option (List ℕ)) → (if b then Some x else later) ≡ None → (b ≡ false) × (later ≡ None)
passes_on true x later none = cc none
passes_on false x later none = (refl, none)

-- and its first answer is the one that counts
pub answer_counts : (e : Entry) (entries more : List Entry) → answer_to e.question entries ≡ None
    → answer_to e.question (entries ++ e ∷ more) ≡ Some e.answer
unfolding answer_to
answer_counts e [] more none = ap (λ b. if b then Some e.answer else answer_to e.question more) (same_question_self e.question)
answer_counts e (x ∷ entries) more none =
    let so = passes_on (same_question e.question x.question) x.answer (answer_to e.question entries) none in
    ap (λ b. if b then Some x.answer else answer_to e.question (entries ++ e ∷ more)) so.0
    ∙ answer_counts e entries more so.1

-- ---- a table that agrees with meanings

given : (m : Meanings) (h : Head) (text answer : List ℕ) → gives m h text answer ≡ true → Gives m h text answer
given m (heads.Bcrypt len rounds salt) text answer is = same_of answer (m.bcrypt text salt rounds len) is
given m (heads.Argon2 k memory passes parallelism salt) text answer is =
    same_of answer (m.argon2 k memory passes parallelism text salt) is
given m (heads.CbcSeal key iv) text answer is = same_of answer (m.cbc_seal key iv text) is
given m (heads.CbcOpen key iv) text answer is = same_of answer (m.cbc_open key iv text) is
given m (heads.Ctr key iv) text answer is = same_of answer (m.ctr key iv text) is
given m (heads.Sign by key) text answer is = tt
given m (heads.Verify key signature) text answer is = tt

given_back : (m : Meanings) (h : Head) (text answer : List ℕ) → Gives m h text answer → gives m h text answer ≡ true
given_back m (heads.Bcrypt len rounds salt) text answer is = (bytes_eq-Decides answer (m.bcrypt text salt rounds len)).1 is
given_back m (heads.Argon2 k memory passes parallelism salt) text answer is =
    (bytes_eq-Decides answer (m.argon2 k memory passes parallelism text salt)).1 is
given_back m (heads.CbcSeal key iv) text answer is = (bytes_eq-Decides answer (m.cbc_seal key iv text)).1 is
given_back m (heads.CbcOpen key iv) text answer is = (bytes_eq-Decides answer (m.cbc_open key iv text)).1 is
given_back m (heads.Ctr key iv) text answer is = (bytes_eq-Decides answer (m.ctr key iv text)).1 is
given_back m (heads.Sign by key) text answer is = refl
given_back m (heads.Verify key signature) text answer is = refl

agrees_so : (m : Meanings) (entries : List Entry) → agrees m entries ≡ true → Agrees m entries
unfolding agrees
agrees_so m [] all = tt
agrees_so m (e ∷ entries) all =
    let own = gives m e.question.head e.question.text e.answer in
    let others = list_all (λ x. gives m x.question.head x.question.text x.answer) entries in
    (given m e.question.head e.question.text e.answer (first_of_and own others all), agrees_so m entries (second_of_and own others all))

agrees_back : (m : Meanings) (entries : List Entry) → Agrees m entries → agrees m entries ≡ true
unfolding agrees
agrees_back m [] all = refl
agrees_back m (e ∷ entries) all =
    both_true (gives m e.question.head e.question.text e.answer)
    (list_all (λ x. gives m x.question.head x.question.text x.answer) entries)
    (given_back m e.question.head e.question.text e.answer all.0) (agrees_back m entries all.1)

pub agrees_decides : (m : Meanings) (entries : List Entry) → (agrees m entries ≡ true) ↔ Agrees m entries
agrees_decides m entries = (agrees_so m entries, agrees_back m entries)

pub meant_is : (m : Meanings) (entries : List Entry) → Agrees m entries → meant m entries ≡ with_hmac m
unfolding meant
meant_is m entries all = ap (λ (b : Bool). if b then with_hmac m else answered entries) (agrees_back m entries all)

pub ruleset agree_laws = (agrees_decides, meant_is)
