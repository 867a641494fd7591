-- What a table answers is what the suite means.
use Rattle.std.proofs.Common.{◌≡◌, ◌∙◌, ℕ, Bool, true, false, List, [], ◌∷◌, length, refl, sym, ap, subst, arith}
use Rattle.std.specs.Prelude.{◌&&◌, ◌==◌, ◌-◌, ◌^◌, if◌then◌else◌, min, unwrap_or, Option, None, Some, Result, Ok, Err, OnOk}
use Rattle.std.specs.Cmp.{unsigned_Decides}
use Rattle.std.specs.List.{list_all}
use Rattle.sha1.specs.Sha1.{sha1}
use Rattle.sha2.specs.Sha256.{sha256}
use Rattle.picky_wire.specs.Count.{count_one}
use Rattle.picky_wire_base.specs.Numbers.{IsBytes}
use Rattle.picky_wire_base.specs.carried.Outcome.{passed_ok}
use Rattle.picky_suite.specs.Fills.{Fills}
use Rattle.picky_suite.specs.Hmac.{hmac}
use Rattle.picky_suite.specs.Meanings.{Meanings}
use Rattle.picky_suite.specs.Zeros.{zeros}
use Rattle.picky_suite.specs.declared.flavour.Flavour.{Flavour}
use Rattle.picky_ask.specs.declared.lookup.Mode.{Mode}
use Rattle.picky_ask.specs.declared.lookup.Mode.TheVariants as modes
use Rattle.picky_ask.specs.declared.missing.Missing.{Missing}
use Rattle.picky_ask.specs.declared.missing.Missing.TheVariants as missings
use Rattle.picky_ask.specs.declared.question.Head.TheVariants as heads
use Rattle.picky_ask.specs.declared.question.Question.{Question}
use Rattle.picky_ask.specs.declared.question.Entry.{Entry}
use Rattle.picky_ask.specs.Answered.{answered}
use Rattle.picky_ask.specs.Completion.{derived, exchanged, other_side}
use Rattle.picky_ask.specs.Known.{gives, agrees, with_hmac, meant}
use Rattle.picky_ask.specs.Lookup.{all_bytes, answer_to, are_paired, derivation, exchange, first_side, in_turn, is_side, judged, of_len, paired, question}
use Rattle.picky_ask.specs.Same.{same_question}
use Rattle.picky_ask.specs.State.{State, LooksUp}
use Rattle.picky_ask.specs.carried.Completion.{mutual_pair}
use Rattle.picky_ask.specs.carried.Tests.{by_test, first_of_and, second_of_and, both_true, all_bytes_of, same_of}
use Rattle.picky_ask.proofs.SameLemmas.{same_question_so}
use Rattle.picky_ask.proofs.TurnLemmas.{turn_so}

-- ---- what an answer says

len_of : (x : List ℕ) (n : ℕ) → (length x == n) ≡ true → length x ≡ n
len_of x n is = (unsigned_Decides (length x) n).0 is

-- an answer of a derivation is the table's, of so many bytes
pub derivation_so : (q : Question) (n : ℕ) (o : Option (List ℕ)) (answer : List ℕ) → judged q (of_len n) o ≡ Ok answer
    → (o ≡ Some answer) × (length answer ≡ n)
derivation_so q n None answer is = cc is
derivation_so q n (Some a) answer is =
    let passed = passed_ok (length a == n) missings.WrongLength a answer is in
    (ap Some passed.1, ap length (sym passed.1) ∙ len_of a n passed.0)

-- what is asked isn't in the table
pub derivation_asks : (q r : Question) (n : ℕ) (o : Option (List ℕ)) → judged q (of_len n) o ≡ Err (missings.Asked r)
    → (q ≡ r) × (o ≡ None)
derivation_asks q r n None is = let same : q ≡ r = cc is in (same, refl)
derivation_asks q r n (Some a) is =
    absurd (by_test (λ (x : Result (List ℕ) Missing). x ≡ Err (missings.Asked r) → ⊥) (length a == n) (Ok a) (Err missings.WrongLength)
    (λ _ other. cc other) (λ _ other. cc other) is)

passed_two : {E A : Type 0} (a b : Bool) (d e : E) (x y : A) → (if a then (if b then Ok x else Err d) else Err e) ≡ Ok y
    → (a ≡ true) × (b ≡ true) × (x ≡ y)
passed_two true true d e x y is = (refl, refl, cc is)
passed_two true false d e x y is = cc is
passed_two false b d e x y is = cc is

-- an answer of a cipher is the table's, as long as the text, and paired with it
pub record IsExchanged (mode : Mode) (key iv : List ℕ) (text : List ℕ) (entries : List Entry) (answer : List ℕ) : Type 0 where
  pub len : length answer ≡ length text
  pub there : first_side mode key iv text entries ≡ Some answer
  pub back : first_side mode key iv answer entries ≡ Some text

side_is : (o : Option (List ℕ)) (x : List ℕ) → is_side o x ≡ true → o ≡ Some x
side_is None x is = cc is
side_is (Some y) x is = ap Some (same_of y x is)

paired_so : (mode : Mode) (key iv text : List ℕ) (entries : List Entry) (a answer : List ℕ)
    → paired mode key iv text entries a ≡ Ok answer → (a ≡ answer) × IsExchanged mode key iv text entries answer
unfolding paired are_paired
paired_so mode key iv text entries a answer is =
    let one = is_side (first_side mode key iv text entries) a in
    let other = is_side (first_side mode key iv a entries) text in
    let passed = passed_two (length a == length text) (one && other) missings.Contradiction missings.WrongLength a answer is in (
      passed.2,
      subst (λ (x : List ℕ). IsExchanged mode key iv text entries x) passed.2 (record {
        len = len_of a (length text) passed.0;
        there = side_is (first_side mode key iv text entries) a (first_of_and one other passed.1);
        back = side_is (first_side mode key iv a entries) text (second_of_and one other passed.1);
      }),
    )

pub exchange_so : (mode : Mode) (key iv : List ℕ) (q : Question) (entries : List Entry) (o : Option (List ℕ)) (answer : List ℕ)
    → judged q (paired mode key iv q.text entries) o ≡ Ok answer
    → (o ≡ Some answer) × IsExchanged mode key iv q.text entries answer
exchange_so mode key iv q entries None answer is = cc is
exchange_so mode key iv q entries (Some a) answer is =
    let so = paired_so mode key iv q.text entries a answer is in (ap Some so.0, so.1)

two_not_asked : (a b : Bool) (x : List ℕ) (r : Question)
    → (if a then (if b then Ok x else Err missings.Contradiction) else Err missings.WrongLength) ≡ Err (missings.Asked r) → ⊥
two_not_asked true true x r is = cc is
two_not_asked true false x r is = cc is
two_not_asked false b x r is = cc is

pub exchange_asks : (mode : Mode) (key iv : List ℕ) (q r : Question) (entries : List Entry) (o : Option (List ℕ))
    → judged q (paired mode key iv q.text entries) o ≡ Err (missings.Asked r) → (q ≡ r) × (o ≡ None)
unfolding paired
exchange_asks mode key iv q r entries None is = let same : q ≡ r = cc is in (same, refl)
exchange_asks mode key iv q r entries (Some a) is =
    absurd (two_not_asked (length a == length q.text) (are_paired mode key iv q.text a entries) a r is)

-- ---- a table that agrees with meanings

one_gives : (m : Meanings) (q : Question) (e : Entry) (answer : List ℕ) (later : Option (List ℕ)) (b : Bool)
    → same_question q e.question ≡ b → gives m e.question.head e.question.text e.answer ≡ true
    → (later ≡ Some answer → gives m q.head q.text answer ≡ true)
    → (if b then Some e.answer else later) ≡ Some answer → gives m q.head q.text answer ≡ true
one_gives m q e answer later true same here rest found =
    let is : q ≡ e.question = same_question_so q e.question same in
    let given : e.answer ≡ answer = cc found in
    subst (λ (a : List ℕ). gives m q.head q.text a ≡ true) given
    (subst (λ (r : Question). gives m r.head r.text e.answer ≡ true) (sym is) here)
one_gives m q e answer later false same here rest found = rest found

-- what it answers is what they give
pub listed_gives : (m : Meanings) (q : Question) (entries : List Entry) (answer : List ℕ) → agrees m entries ≡ true
    → answer_to q entries ≡ Some answer → gives m q.head q.text answer ≡ true
unfolding agrees answer_to
listed_gives m q [] answer all found = cc found
listed_gives m q (e ∷ more) answer all found =
    let own = gives m e.question.head e.question.text e.answer in
    let others = list_all (λ x. gives m x.question.head x.question.text x.answer) more in
    one_gives m q e answer (answer_to q more) (same_question q e.question) refl (first_of_and own others all)
    (listed_gives m q more answer (second_of_and own others all)) found

-- ---- what the suite means

derived_is : (n : ℕ) (o : Option (List ℕ)) (answer : List ℕ) → o ≡ Some answer → length answer ≡ n → IsBytes answer
    → answer ≡ derived n o
unfolding derived
derived_is n o answer is len each =
    sym (ap (derived n) is ∙ ap (λ b. if b then answer else zeros n)
    (both_true (length answer == n) (all_bytes answer) ((unsigned_Decides (length answer) n).1 len) (all_bytes_of answer each)))

pub meant_bcrypt : (m : Meanings) (entries : List Entry) (pass salt : List ℕ) (rounds n : ℕ) (answer : List ℕ)
    → derivation (question (heads.Bcrypt n rounds salt) pass) n entries ≡ Ok answer → IsBytes answer
    → answer ≡ (meant m entries).bcrypt pass salt rounds n
unfolding meant
meant_bcrypt m entries pass salt rounds n answer is each =
    let q = question (heads.Bcrypt n rounds salt) pass in
    let so = derivation_so q n (answer_to q entries) answer is in
    by_test (λ (w : Meanings). answer ≡ w.bcrypt pass salt rounds n) (agrees m entries) (with_hmac m) (answered entries)
    (λ all. same_of answer (m.bcrypt pass salt rounds n) (listed_gives m q entries answer all so.0))
    (λ _. derived_is n (answer_to q entries) answer so.0 so.1 each)

pub meant_argon2 : (m : Meanings) (entries : List Entry) (kind : Flavour) (memory passes parallelism : ℕ) (pass salt answer : List ℕ)
    → derivation (question (heads.Argon2 kind memory passes parallelism salt) pass) 80 entries ≡ Ok answer → IsBytes answer
    → answer ≡ (meant m entries).argon2 kind memory passes parallelism pass salt
unfolding meant
meant_argon2 m entries kind memory passes parallelism pass salt answer is each =
    let q = question (heads.Argon2 kind memory passes parallelism salt) pass in
    let so = derivation_so q 80 (answer_to q entries) answer is in
    by_test (λ (w : Meanings). answer ≡ w.argon2 kind memory passes parallelism pass salt) (agrees m entries) (with_hmac m) (answered entries)
    (λ all. same_of answer (m.argon2 kind memory passes parallelism pass salt) (listed_gives m q entries answer all so.0))
    (λ _. derived_is 80 (answer_to q entries) answer so.0 so.1 each)

exchanged_is : (mode : Mode) (key iv text : List ℕ) (entries : List Entry) (answer : List ℕ)
    → IsExchanged mode key iv text entries answer → answer ≡ exchanged mode key iv entries text
exchanged_is mode key iv text entries answer so =
    sym (mutual_pair (λ it. other_side mode key iv it entries) text answer (ap (λ o. unwrap_or o text) so.there)
    (ap (λ o. unwrap_or o answer) so.back))

pub meant_seal : (m : Meanings) (entries : List Entry) (key iv text answer : List ℕ)
    → exchange modes.Cbc key iv (question (heads.CbcSeal key iv) text) entries ≡ Ok answer
    → answer ≡ (meant m entries).cbc_seal key iv text
unfolding meant
meant_seal m entries key iv text answer is =
    let q = question (heads.CbcSeal key iv) text in
    let so = exchange_so modes.Cbc key iv q entries (answer_to q entries) answer is in
    by_test (λ (w : Meanings). answer ≡ w.cbc_seal key iv text) (agrees m entries) (with_hmac m) (answered entries)
    (λ all. same_of answer (m.cbc_seal key iv text) (listed_gives m q entries answer all so.0))
    (λ _. exchanged_is modes.Cbc key iv text entries answer so.1)

pub meant_open : (m : Meanings) (entries : List Entry) (key iv text answer : List ℕ)
    → exchange modes.Cbc key iv (question (heads.CbcOpen key iv) text) entries ≡ Ok answer
    → answer ≡ (meant m entries).cbc_open key iv text
unfolding meant
meant_open m entries key iv text answer is =
    let q = question (heads.CbcOpen key iv) text in
    let so = exchange_so modes.Cbc key iv q entries (answer_to q entries) answer is in
    by_test (λ (w : Meanings). answer ≡ w.cbc_open key iv text) (agrees m entries) (with_hmac m) (answered entries)
    (λ all. same_of answer (m.cbc_open key iv text) (listed_gives m q entries answer all so.0))
    (λ _. exchanged_is modes.Cbc key iv text entries answer so.1)

pub meant_ctr : (m : Meanings) (entries : List Entry) (key iv text answer : List ℕ)
    → exchange modes.Ctr key iv (question (heads.Ctr key iv) text) entries ≡ Ok answer
    → answer ≡ (meant m entries).ctr key iv text
unfolding meant
meant_ctr m entries key iv text answer is =
    let q = question (heads.Ctr key iv) text in
    let so = exchange_so modes.Ctr key iv q entries (answer_to q entries) answer is in
    by_test (λ (w : Meanings). answer ≡ w.ctr key iv text) (agrees m entries) (with_hmac m) (answered entries)
    (λ all. same_of answer (m.ctr key iv text) (listed_gives m q entries answer all so.0))
    (λ _. exchanged_is modes.Ctr key iv text entries answer so.1)

pub meant_sha1 : (m : Meanings) (entries : List Entry) (key message : List ℕ)
    → (meant m entries).hmac_sha1 key message ≡ hmac sha1 key message
unfolding meant
meant_sha1 m entries key message =
    by_test (λ (w : Meanings). w.hmac_sha1 key message ≡ hmac sha1 key message) (agrees m entries) (with_hmac m) (answered entries)
    (λ _. refl) (λ _. refl)

pub meant_sha256 : (m : Meanings) (entries : List Entry) (key message : List ℕ)
    → (meant m entries).hmac_sha256 key message ≡ hmac sha256 key message
unfolding meant
meant_sha256 m entries key message =
    by_test (λ (w : Meanings). w.hmac_sha256 key message ≡ hmac sha256 key message) (agrees m entries) (with_hmac m) (answered entries)
    (λ _. refl) (λ _. refl)

-- ---- a call that looks up is a call of a suite

pub looks_fills : {A E : Type 0} (m : Meanings) (q : Question) (says : Result (List ℕ) Missing) (result : Result A E)
    (buffer filled wanted : List ℕ) (old new : State) → LooksUp q (in_turn q old.used old.entries says) result filled old new
    → length filled ≡ length buffer → OnOk result (IsBytes filled) → (says ≡ Ok filled → IsBytes filled → filled ≡ wanted)
    → Fills (λ s. meant m s.entries) (λ s. min s.faults (2 ^ 64 - 1)) wanted result buffer filled old new
looks_fills m q says (Ok x) buffer filled wanted old new looks len each is = record {
  kept = ap (λ (s : State). meant m s.entries) looks.moved;
  value = is (turn_so q old.used old.entries says filled looks.value).1 each;
  len = len;
  counted = tt;
  calm = ap (λ (s : State). min s.faults (2 ^ 64 - 1)) looks.moved;
}
looks_fills m q says (Err e) buffer filled wanted old new looks len each is =
    let faults : new.faults ≡ count_one old.faults = ap (λ (s : State). s.faults) looks.failed.fails in
    record {
      kept = ap (λ (s : State). meant m s.entries) looks.failed.fails;
      value = tt;
      len = len;
      counted = omega (arith, faults);
      calm = tt;
    }
