-- A table's completion keeps the laws of a suite, whatever the table.
use Rattle.std.proofs.Common.{◌≡◌, ◌∙◌, ℕ, true, List, [], ◌∷◌, length, refl, sym, ap}
use Rattle.std.specs.Prelude.{◌&&◌, ◌==◌, if◌then◌else◌, unwrap_or, Option, None, Some, IfSome}
use Rattle.std.specs.Cmp.{unsigned_Decides}
use Rattle.std.specs.Str.{bytes_eq}
use Rattle.std.proofs.lemmas.Slice.Eq.{bytes_eq-Decides}
use Rattle.picky_wire_base.specs.Numbers.{IsBytes}
use Rattle.picky_suite.specs.Zeros.{zeros}
use Rattle.picky_suite.specs.carried.Zeros.{length-zeros, zeros_bytes}
use Rattle.picky_ask.specs.declared.lookup.Mode.{Mode}
use Rattle.picky_ask.specs.declared.question.Entry.{Entry}
use Rattle.picky_ask.specs.Completion.{derived, mutually, other_side, exchanged}
use Rattle.picky_ask.specs.Lookup.{all_bytes, asks_cipher, is_pair, or_later, side, first_side}
use Rattle.picky_ask.specs.carried.Tests.{by_test, first_of_and, second_of_and, all_four, both_ways, bytes_of, same_of}

-- ---- what is derived

pub derived_len : (n : ℕ) (o : Option (List ℕ)) → length (derived n o) ≡ n
unfolding derived
derived_len n None = length-zeros n
derived_len n (Some answer) =
    by_test (λ x. length x ≡ n) ((length answer == n) && all_bytes answer) answer (zeros n)
    (λ is. (unsigned_Decides (length answer) n).0 (first_of_and (length answer == n) (all_bytes answer) is)) (λ _. length-zeros n)

pub derived_bytes : (n : ℕ) (o : Option (List ℕ)) → IsBytes (derived n o)
unfolding derived
derived_bytes n None = zeros_bytes n
derived_bytes n (Some answer) =
    by_test IsBytes ((length answer == n) && all_bytes answer) answer (zeros n)
    (λ is. bytes_of answer (second_of_and (length answer == n) (all_bytes answer) is)) (λ _. zeros_bytes n)

-- ---- what is sealed or opened

-- what a pair is
pub pair_so : (mode : Mode) (key iv : List ℕ) (e : Entry) → is_pair mode key iv e ≡ true
    → (asks_cipher mode key iv e.question.head ≡ true) × ((length e.question.text == length e.answer) ≡ true)
    × (all_bytes e.question.text ≡ true) × (all_bytes e.answer ≡ true)
unfolding is_pair
pair_so mode key iv e is =
    all_four (asks_cipher mode key iv e.question.head) (length e.question.text == length e.answer) (all_bytes e.question.text)
    (all_bytes e.answer) is

pub pair_len : (mode : Mode) (key iv : List ℕ) (e : Entry) → is_pair mode key iv e ≡ true
    → length e.question.text ≡ length e.answer
pair_len mode key iv e is = (unsigned_Decides (length e.question.text) (length e.answer)).0 (pair_so mode key iv e is).1

from_some : (P : List ℕ → Type 0) (o : Option (List ℕ)) (rest : List ℕ) → IfSome o P → P rest → P (unwrap_or o rest)
from_some P None rest some other = other
from_some P (Some x) rest some other = some

side_keeps : (P : List ℕ → Type 0) (mode : Mode) (key iv text : List ℕ) (e : Entry)
    → (is_pair mode key iv e ≡ true → e.question.text ≡ text → P e.answer)
    → (is_pair mode key iv e ≡ true → e.answer ≡ text → P e.question.text)
    → IfSome (side mode key iv text e) P
unfolding side
side_keeps P mode key iv text e there back =
    by_test (λ o. IfSome o P) (is_pair mode key iv e)
    (if bytes_eq e.question.text text then Some e.answer else if bytes_eq e.answer text then Some e.question.text else None) None
    (λ pair. by_test (λ o. IfSome o P) (bytes_eq e.question.text text) (Some e.answer)
    (if bytes_eq e.answer text then Some e.question.text else None)
    (λ is. there pair (same_of e.question.text text is))
    (λ _. by_test (λ o. IfSome o P) (bytes_eq e.answer text) (Some e.question.text) None
    (λ is. back pair (same_of e.answer text is)) (λ _. tt)))
    (λ _. tt)

or_keeps : (P : List ℕ → Type 0) (o later : Option (List ℕ)) → IfSome o P → IfSome later P → IfSome (or_later o later) P
or_keeps P None later some other = other
or_keeps P (Some x) later some other = some

first_keeps : (P : List ℕ → Type 0) (mode : Mode) (key iv text : List ℕ) (entries : List Entry)
    → ((e : Entry) → is_pair mode key iv e ≡ true → e.question.text ≡ text → P e.answer)
    → ((e : Entry) → is_pair mode key iv e ≡ true → e.answer ≡ text → P e.question.text)
    → IfSome (first_side mode key iv text entries) P
unfolding first_side
first_keeps P mode key iv text [] there back = tt
first_keeps P mode key iv text (e ∷ more) there back =
    or_keeps P (side mode key iv text e) (first_side mode key iv text more) (side_keeps P mode key iv text e (there e) (back e))
    (first_keeps P mode key iv text more there back)

-- what holds of the text, and of a side of each pair whose other side is the text, holds of what is on the other side
other_keeps : (P : List ℕ → Type 0) (mode : Mode) (key iv text : List ℕ) (entries : List Entry) → P text
    → ((e : Entry) → is_pair mode key iv e ≡ true → e.question.text ≡ text → P e.answer)
    → ((e : Entry) → is_pair mode key iv e ≡ true → e.answer ≡ text → P e.question.text)
    → P (other_side mode key iv text entries)
other_keeps P mode key iv text entries own there back =
    from_some P (first_side mode key iv text entries) text (first_keeps P mode key iv text entries there back) own

pub other_len : (mode : Mode) (key iv text : List ℕ) (entries : List Entry)
    → length (other_side mode key iv text entries) ≡ length text
other_len mode key iv text entries =
    other_keeps (λ x. length x ≡ length text) mode key iv text entries refl
    (λ e pair is. sym (pair_len mode key iv e pair) ∙ ap length is) (λ e pair is. pair_len mode key iv e pair ∙ ap length is)

other_bytes : (mode : Mode) (key iv text : List ℕ) (entries : List Entry) → IsBytes text
    → IsBytes (other_side mode key iv text entries)
other_bytes mode key iv text entries each =
    other_keeps IsBytes mode key iv text entries each
    (λ e pair is. bytes_of e.answer (pair_so mode key iv e pair).3)
    (λ e pair is. bytes_of e.question.text (pair_so mode key iv e pair).2)

mutual_keeps : (P : List ℕ → Type 0) (g : List ℕ → List ℕ) (text : List ℕ) → P text → P (g text) → P (mutually g text)
unfolding mutually
mutual_keeps P g text own given = by_test P (bytes_eq (g (g text)) text) (g text) text (λ _. given) (λ _. own)

mutual_twice : (g : List ℕ → List ℕ) (text : List ℕ) → mutually g (mutually g text) ≡ text
unfolding mutually
mutual_twice g text =
    by_test (λ x. mutually g x ≡ text) (bytes_eq (g (g text)) text) (g text) text
    (λ holds. let same : g (g text) ≡ text = same_of (g (g text)) text holds in
    by_test (λ x. x ≡ text) (bytes_eq (g (g (g text))) (g text)) (g (g text)) (g text) (λ _. same)
    (λ fails. absurd (both_ways (bytes_eq (g (g (g text))) (g text)) ((bytes_eq-Decides (g (g (g text))) (g text)).1 (ap g same)) fails)))
    (λ fails. by_test (λ x. x ≡ text) (bytes_eq (g (g text)) text) (g text) text
    (λ holds. absurd (both_ways (bytes_eq (g (g text)) text) holds fails)) (λ _. refl))

-- where g gives the text back, the two are exchanged
pub mutual_pair : (g : List ℕ → List ℕ) (text other : List ℕ) → g text ≡ other → g other ≡ text → mutually g text ≡ other
unfolding mutually
mutual_pair g text other there back =
    ap (λ b. if b then g text else text) ((bytes_eq-Decides (g (g text)) text).1 (ap g there ∙ back)) ∙ there

pub exchanged_twice : (mode : Mode) (key iv : List ℕ) (entries : List Entry) (text : List ℕ)
    → exchanged mode key iv entries (exchanged mode key iv entries text) ≡ text
exchanged_twice mode key iv entries text = mutual_twice (λ it. other_side mode key iv it entries) text

pub exchanged_len : (mode : Mode) (key iv : List ℕ) (entries : List Entry) (text : List ℕ)
    → length (exchanged mode key iv entries text) ≡ length text
exchanged_len mode key iv entries text =
    mutual_keeps (λ x. length x ≡ length text) (λ it. other_side mode key iv it entries) text refl
    (other_len mode key iv text entries)

pub exchanged_bytes : (mode : Mode) (key iv : List ℕ) (entries : List Entry) (text : List ℕ) → IsBytes text
    → IsBytes (exchanged mode key iv entries text)
exchanged_bytes mode key iv entries text each =
    mutual_keeps IsBytes (λ it. other_side mode key iv it entries) text each (other_bytes mode key iv text entries each)
