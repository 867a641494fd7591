-- A table's entries are used in their order: places, turns, and how often a suite was asked.
use Rattle.std.proofs.Common.{◌≡◌, ◌∙◌, ◌<◌, ◌≤◌, ◌+◌, ◌++◌, ℕ, zero, suc, Bool, true, false, List, [], ◌∷◌, length, get_or, take, refl, sym, ap, subst, inl, inr, arith, add-one}
use Rattle.std.specs.Prelude.{◌==◌, nat_lt, max, if◌then◌else◌, Option, None, Some, Result, Ok, Err}
use Rattle.std.specs.Cmp.{unsigned_Decides}
use Rattle.std.proofs.lemmas.Bool.{lt-ltb, le-ltb}
use Rattle.picky_suite.specs.Asked.{IsAskedAtMost}
use Rattle.picky_ask.specs.declared.lookup.Mode.{Mode}
use Rattle.picky_ask.specs.declared.missing.Missing.{Missing}
use Rattle.picky_ask.specs.declared.missing.Missing.TheVariants as missings
use Rattle.picky_ask.specs.declared.question.Question.{Question}
use Rattle.picky_ask.specs.declared.question.Entry.{Entry}
use Rattle.picky_ask.specs.Lookup.{answer_to, are_paired, derivation, exchange, in_turn, judged, of_len, paired, place_of}
use Rattle.picky_ask.specs.Same.{same_question}
use Rattle.picky_ask.specs.State.{FailsFor, HasReason, IsState, LooksUp, State, calls_made, fresh, one_if, used_up}
use Rattle.picky_ask.specs.inner.Turn.{IsAskedFor, IsFound, turned}

-- ---- places

next_of : (e d : Entry) (more : List Entry) (n : ℕ) → get_or (e ∷ more) (n + 1) d ≡ get_or more n d
next_of e d more n = ap (λ i. get_or (e ∷ more) i d) (add-one n)

at_test : (b : Bool) (e d : Entry) (more : List Entry) (later : Option (List ℕ)) (n : ℕ)
    → (n < length more → later ≡ Some (get_or more n d).answer) → (if b then 0 else n + 1) < length (e ∷ more)
    → (if b then Some e.answer else later) ≡ Some (get_or (e ∷ more) (if b then 0 else n + 1) d).answer
at_test true e d more later n goes fits = refl
at_test false e d more later n goes fits =
    let fewer : n < length more = omega arith in
    goes fewer ∙ ap (λ (x : Entry). Some x.answer) (sym (next_of e d more n))

-- the answer is that of the entry at the question's place
pub answer_at : (q : Question) (entries : List Entry) (d : Entry) → place_of q entries < length entries
    → answer_to q entries ≡ Some (get_or entries (place_of q entries) d).answer
unfolding answer_to place_of
answer_at q [] d fits = absurd (omega arith)
answer_at q (e ∷ more) d fits =
    at_test (same_question q e.question) e d more (answer_to q more) (place_of q more) (answer_at q more d) fits

pub answer_here : (q : Question) (entries : List Entry) (place : ℕ) (d : Entry) → place ≡ place_of q entries
    → place < length entries → answer_to q entries ≡ Some (get_or entries place d).answer
answer_here q entries place d is fits =
    let fewer : place_of q entries < length entries = omega (arith, is, fits) in
    answer_at q entries d fewer ∙ ap (λ i. Some (get_or entries i d).answer) (sym is)

past_test : (b : Bool) (e : Entry) (more : List Entry) (later : Option (List ℕ)) (n : ℕ) → (length more ≤ n → later ≡ None)
    → length (e ∷ more) ≤ (if b then 0 else n + 1) → (if b then Some e.answer else later) ≡ None
past_test true e more later n goes fits = absurd (omega arith)
past_test false e more later n goes fits = goes (omega arith)

-- past the last entry there is none
pub answer_past : (q : Question) (entries : List Entry) → length entries ≤ place_of q entries → answer_to q entries ≡ None
unfolding answer_to place_of
answer_past q [] fits = refl
answer_past q (e ∷ more) fits =
    past_test (same_question q e.question) e more (answer_to q more) (place_of q more) (answer_past q more) fits

place_test : (b : Bool) (x a : List ℕ) (later : Option (List ℕ)) (m n : ℕ) → (later ≡ Some a → m ≡ n)
    → (if b then Some x else later) ≡ Some a → (if b then 0 else m + 1) ≡ (if b then 0 else n + 1)
place_test true x a later m n goes found = refl
place_test false x a later m n goes found = ap (λ k. k + 1) (goes found)

-- more answers behind move no question that is answered
pub place_more : (q : Question) (entries more : List Entry) (a : List ℕ) → answer_to q entries ≡ Some a
    → place_of q (entries ++ more) ≡ place_of q entries
unfolding answer_to place_of
place_more q [] more a found = cc found
place_more q (e ∷ entries) more a found =
    place_test (same_question q e.question) e.answer a (answer_to q entries) (place_of q (entries ++ more)) (place_of q entries)
    (place_more q entries more a) found

early_test : (b : Bool) (x : List ℕ) (later : Option (List ℕ)) (m n : ℕ) → (n ≤ m → later ≡ None)
    → suc n ≤ (if b then 0 else m + 1) → (if b then Some x else later) ≡ None
early_test true x later m n goes fits = absurd (omega arith)
early_test false x later m n goes fits = goes (omega arith)

-- none of the entries before its place answers a question
early_none : (q : Question) (entries : List Entry) (n : ℕ) → n ≤ place_of q entries → answer_to q (take n entries) ≡ None
unfolding answer_to place_of
early_none q entries zero fits = refl
early_none q [] (suc n) fits = refl
early_none q (e ∷ more) (suc n) fits =
    early_test (same_question q e.question) e.answer (answer_to q (take n more)) (place_of q more) n (early_none q more n) fits

within_test : (b : Bool) (e : Entry) (more : List Entry) (n : ℕ) → n ≤ length more → (if b then 0 else n + 1) ≤ length (e ∷ more)
within_test true e more n fits = omega arith
within_test false e more n fits = omega arith

pub place_within : (q : Question) (entries : List Entry) → place_of q entries ≤ length entries
unfolding place_of
place_within q [] = omega arith
place_within q (e ∷ more) = within_test (same_question q e.question) e more (place_of q more) (place_within q more)

-- an answer that is out of its turn stands behind the next entry
pub early_so : (q : Question) (used : ℕ) (entries : List Entry) → used < place_of q entries
    → (used < length entries) × (answer_to q (take (used + 1) entries) ≡ None)
early_so q used entries early =
    let within = place_within q entries in
    (omega (arith, early, within), early_none q entries (used + 1) (omega (arith, early)))

-- ---- turns

turn_test : (b : Bool) (says : Result (List ℕ) Missing) (x : List ℕ) → (if b then Err missings.Misplaced else says) ≡ Ok x
    → (b ≡ false) × (says ≡ Ok x)
turn_test true says x is = cc is
turn_test false says x is = (refl, is)

le_of : (m n : ℕ) → nat_lt m n ≡ false → n ≤ m
le_of m n is = grind (arith, is)

pub turn_so : (q : Question) (used : ℕ) (entries : List Entry) (says : Result (List ℕ) Missing) (x : List ℕ)
    → in_turn q used entries says ≡ Ok x → (place_of q entries ≤ used) × (says ≡ Ok x)
turn_so q used entries says x is =
    let so = turn_test (nat_lt used (place_of q entries)) says x is in (le_of used (place_of q entries) so.0, so.1)

turn_come : (q : Question) (used : ℕ) (entries : List Entry) (says : Result (List ℕ) Missing) → place_of q entries ≤ used
    → in_turn q used entries says ≡ says
turn_come q used entries says come =
    ap (λ b. if b then Err missings.Misplaced else says) (le-ltb used (place_of q entries) come)

turn_early : (q : Question) (used : ℕ) (entries : List Entry) (says : Result (List ℕ) Missing) → used < place_of q entries
    → in_turn q used entries says ≡ Err missings.Misplaced
turn_early q used entries says early =
    ap (λ b. if b then Err missings.Misplaced else says) (lt-ltb used (place_of q entries) early)

-- ---- why a call has no answer

pub early_reason : (q : Question) (judge : List ℕ → Result (List ℕ) Missing) (old new : State) → old.used < place_of q old.entries
    → FailsFor missings.Misplaced old new → HasReason q (turned q judge old) old new
early_reason q judge old new early fails = record {
  reason = missings.Misplaced;
  is = inl (turn_early q old.used old.entries (judged q judge (answer_to q old.entries)) early);
  fails = fails;
}

unlisted_says : (q : Question) (judge : List ℕ → Result (List ℕ) Missing) (s : State) → place_of q s.entries ≤ s.used
    → answer_to q s.entries ≡ None → turned q judge s ≡ Err (missings.Asked q)
unlisted_says q judge s come none =
    turn_come q s.used s.entries (judged q judge (answer_to q s.entries)) come ∙ ap (judged q judge) none

pub asked_reason : (q : Question) (judge : List ℕ → Result (List ℕ) Missing) (reason : Missing) (old new : State)
    → place_of q old.entries ≤ old.used → answer_to q old.entries ≡ None → IsAskedFor q reason → FailsFor reason old new
    → HasReason q (turned q judge old) old new
asked_reason q judge (missings.Asked r) old new come none is fails = record {
  reason = missings.Asked r;
  is = inl (unlisted_says q judge old come none ∙ ap (λ (x : Question). Err (missings.Asked x)) (sym is));
  fails = fails;
}
asked_reason q judge missings.NoMemory old new come none is fails =
    record { reason = missings.NoMemory; is = inr (unlisted_says q judge old come none, is); fails = fails }
asked_reason q judge missings.TooLong old new come none is fails =
    record { reason = missings.TooLong; is = inr (unlisted_says q judge old come none, is); fails = fails }
asked_reason q judge missings.WrongLength old new come none is fails = absurd is
asked_reason q judge missings.Contradiction old new come none is fails = absurd is
asked_reason q judge missings.Misplaced old new come none is fails = absurd is

-- ---- an answer in its turn

found_says : (q : Question) (judge : List ℕ → Result (List ℕ) Missing) (place : ℕ) (answer : List ℕ) (s : State)
    → IsFound q place answer s → turned q judge s ≡ judge answer
found_says q judge place answer s found =
    let come : place_of q s.entries ≤ s.used = omega (arith, found.place_is, found.turn) in
    turn_come q s.used s.entries (judged q judge (answer_to q s.entries)) come ∙ ap (judged q judge) found.listed

false_of : (b : Bool) → (b ≡ true → ⊥) → b ≡ false
false_of true holds = absurd (holds refl)
false_of false holds = refl

other_len : (m n : ℕ) → (m ≡ n → ⊥) → (m == n) ≡ false
other_len m n other = false_of (m == n) (λ is. other ((unsigned_Decides m n).0 is))

pub derivation_ok : (q : Question) (n place : ℕ) (answer : List ℕ) (s : State) → IsFound q place answer s → length answer ≡ n
    → in_turn q s.used s.entries (derivation q n s.entries) ≡ Ok answer
derivation_ok q n place answer s found len =
    found_says q (of_len n) place answer s found
    ∙ ap (λ b. if b then Ok answer else Err missings.WrongLength) ((unsigned_Decides (length answer) n).1 len)

pub derivation_long : (q : Question) (n place : ℕ) (answer : List ℕ) (s : State) → IsFound q place answer s
    → (length answer ≡ n → ⊥) → in_turn q s.used s.entries (derivation q n s.entries) ≡ Err missings.WrongLength
derivation_long q n place answer s found other =
    found_says q (of_len n) place answer s found
    ∙ ap (λ b. if b then Ok answer else Err missings.WrongLength) (other_len (length answer) n other)

paired_by : (mode : Mode) (key iv text : List ℕ) (entries : List Entry) (answer : List ℕ) (b : Bool)
    → length answer ≡ length text → are_paired mode key iv text answer entries ≡ b
    → paired mode key iv text entries answer ≡ (if b then Ok answer else Err missings.Contradiction)
unfolding paired
paired_by mode key iv text entries answer b len is =
    ap (λ c. if c then (if are_paired mode key iv text answer entries then Ok answer else Err missings.Contradiction) else Err missings.WrongLength)
    ((unsigned_Decides (length answer) (length text)).1 len)
    ∙ ap (λ c. if c then Ok answer else Err missings.Contradiction) is

paired_long : (mode : Mode) (key iv text : List ℕ) (entries : List Entry) (answer : List ℕ) → (length answer ≡ length text → ⊥)
    → paired mode key iv text entries answer ≡ Err missings.WrongLength
unfolding paired
paired_long mode key iv text entries answer other =
    ap (λ c. if c then (if are_paired mode key iv text answer entries then Ok answer else Err missings.Contradiction) else Err missings.WrongLength)
    (other_len (length answer) (length text) other)

pub exchange_by : (mode : Mode) (key iv : List ℕ) (q : Question) (place : ℕ) (answer : List ℕ) (s : State) (b : Bool)
    → IsFound q place answer s → length answer ≡ length q.text → are_paired mode key iv q.text answer s.entries ≡ b
    → in_turn q s.used s.entries (exchange mode key iv q s.entries) ≡ (if b then Ok answer else Err missings.Contradiction)
exchange_by mode key iv q place answer s b found len is =
    found_says q (paired mode key iv q.text s.entries) place answer s found ∙ paired_by mode key iv q.text s.entries answer b len is

pub exchange_long : (mode : Mode) (key iv : List ℕ) (q : Question) (place : ℕ) (answer : List ℕ) (s : State)
    → IsFound q place answer s → (length answer ≡ length q.text → ⊥)
    → in_turn q s.used s.entries (exchange mode key iv q s.entries) ≡ Err missings.WrongLength
exchange_long mode key iv q place answer s found other =
    found_says q (paired mode key iv q.text s.entries) place answer s found
    ∙ paired_long mode key iv q.text s.entries answer other

moved_up : (q : Question) (place : ℕ) (answer : List ℕ) (old new : State) → IsFound q place answer old
    → new ≡ record old { used = max old.used (place + 1) } → new ≡ used_up q old
moved_up q place answer old new found moves =
    moves ∙ ap (λ n. record old { used = max old.used (n + 1) }) (sym found.place_is)

-- a call that fails for what it says
pub fails_looks : {A E : Type 0} (q : Question) (says : Result (List ℕ) Missing) (reason : Missing) (e : E) (filled : List ℕ)
    (old mid new : State) → says ≡ Err reason → mid ≡ old → FailsFor reason mid new → LooksUp {A = A} {E = E} q says (Err e) filled old new
fails_looks q says reason e filled old mid new is same fails = record {
  value = tt;
  moved = tt;
  failed = record { reason = reason; is = inl is; fails = subst (λ (s : State). FailsFor reason s new) same fails };
}

-- a call that hands out what it says
pub passes_looks : {A E : Type 0} (q : Question) (says : Result (List ℕ) Missing) (place : ℕ) (x : A) (answer filled : List ℕ)
    (old mid new : State) → IsFound q place answer old → says ≡ Ok answer → filled ≡ answer → mid ≡ old
    → new ≡ record mid { used = max mid.used (place + 1) } → LooksUp {A = A} {E = E} q says (Ok x) filled old new
passes_looks q says place x answer filled old mid new found is fills same moves = record {
  value = is ∙ ap Ok (sym fills);
  moved =
      moved_up q place answer old new found (moves ∙ ap (λ (s : State). record s { used = max s.used (place + 1) }) same);
  failed = tt;
}

-- ---- how often a suite was asked

pub looks_asked : {A E : Type 0} (q : Question) (says : Result (List ℕ) Missing) (result : Result A E) (filled : List ℕ)
    (old new : State) → LooksUp q (in_turn q old.used old.entries says) result filled old new → IsAskedAtMost 1 calls_made old new
looks_asked q says (Ok x) filled old new looks =
    let so = turn_so q old.used old.entries says filled looks.value in
    let same : calls_made new ≡ max old.used (place_of q old.entries + 1) + one_if old.missing = ap calls_made looks.moved in
    omega (arith, same, so.0)
looks_asked q says (Err e) filled old new looks =
    let same : calls_made new ≡ old.used + 1 = ap calls_made looks.failed.fails in
    omega (arith, same)

-- no question is left under enough answers
pub enough_answers : (n : ℕ) (entries : List Entry) (q : Question) (new : State) → IsState (Some entries) new
    → IsAskedAtMost n calls_made (fresh entries) new → new.missing ≡ Some (missings.Asked q) → length entries < n
enough_answers n entries q new is few asked =
    let one : one_if new.missing ≡ 1 = ap one_if asked in
    let all : new.used ≡ length entries = is.last q asked ∙ ap length (is.table entries refl) in
    omega (arith, one, all, few)
