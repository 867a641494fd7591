-- What a suite asks, and the cause of its reasons.
use Rattle.std.proofs.Common.{◌≡◌, ◌<◌, ℕ, true, List, None, Some, length, refl, ap, arith}
use Rattle.std.specs.Prelude.{◌&&◌, is_some}
use Rattle.std.specs.Str.{bytes_eq}
use Rattle.std.proofs.lemmas.Slice.Eq.{bytes_eq-Decides}
use Rattle.picky_ask.specs.declared.lookup.Mode.{Mode}
use Rattle.picky_ask.specs.declared.lookup.Mode.TheVariants as modes
use Rattle.picky_ask.specs.declared.missing.Missing.{Missing}
use Rattle.picky_ask.specs.declared.missing.Missing.TheVariants as missings
use Rattle.picky_ask.specs.declared.question.Entry.{Entry}
use Rattle.picky_ask.specs.declared.question.Head.{Head}
use Rattle.picky_ask.specs.declared.question.Head.TheVariants as heads
use Rattle.picky_ask.specs.declared.question.Question.{Question}
use Rattle.picky_ask.specs.carried.Tests.{both_true}
use Rattle.picky_ask.specs.Cause.{HasCause, IsOfSuite, Wants, wanted_len}
use Rattle.picky_ask.specs.Lookup.{answer_to, asks_cipher, place_of}
use Rattle.picky_ask.specs.inner.Turn.{IsAskedFor}
use Rattle.picky_ask.proofs.TurnLemmas.{place_within}

-- ---- what a suite asks

own_two : (key iv : List ℕ) → bytes_eq key key && bytes_eq iv iv ≡ true
own_two key iv =
    both_true (bytes_eq key key) (bytes_eq iv iv) ((bytes_eq-Decides key key).1 refl) ((bytes_eq-Decides iv iv).1 refl)

pub asks_seal : (key iv : List ℕ) → asks_cipher modes.Cbc key iv (heads.CbcSeal key iv) ≡ true
unfolding asks_cipher
asks_seal key iv = own_two key iv

pub asks_open : (key iv : List ℕ) → asks_cipher modes.Cbc key iv (heads.CbcOpen key iv) ≡ true
unfolding asks_cipher
asks_open key iv = own_two key iv

pub asks_ctr : (key iv : List ℕ) → asks_cipher modes.Ctr key iv (heads.Ctr key iv) ≡ true
unfolding asks_cipher
asks_ctr key iv = own_two key iv

pub cipher_wants : (mode : Mode) (key iv : List ℕ) (h : Head) (text : List ℕ) → asks_cipher mode key iv h ≡ true
    → wanted_len h text ≡ Some (length text)
unfolding asks_cipher
cipher_wants modes.Cbc key iv (heads.CbcSeal k v) text is = refl
cipher_wants modes.Cbc key iv (heads.CbcOpen k v) text is = refl
cipher_wants modes.Ctr key iv (heads.Ctr k v) text is = refl
cipher_wants modes.Cbc key iv (heads.Bcrypt len rounds salt) text is = cc is
cipher_wants modes.Cbc key iv (heads.Argon2 kind memory passes parallelism salt) text is = cc is
cipher_wants modes.Cbc key iv (heads.Ctr k v) text is = cc is
cipher_wants modes.Cbc key iv (heads.Sign by k) text is = cc is
cipher_wants modes.Cbc key iv (heads.Verify k signature) text is = cc is
cipher_wants modes.Ctr key iv (heads.Bcrypt len rounds salt) text is = cc is
cipher_wants modes.Ctr key iv (heads.Argon2 kind memory passes parallelism salt) text is = cc is
cipher_wants modes.Ctr key iv (heads.CbcSeal k v) text is = cc is
cipher_wants modes.Ctr key iv (heads.CbcOpen k v) text is = cc is
cipher_wants modes.Ctr key iv (heads.Sign by k) text is = cc is
cipher_wants modes.Ctr key iv (heads.Verify k signature) text is = cc is

pub wanted_is_asked : (q : Question) (n : ℕ) → Wants q n → IsOfSuite q
wanted_is_asked q n is = ap is_some is

-- ---- the causes

pub other_length : (entries : List Entry) (q : Question) (n : ℕ) (answer : List ℕ) → Wants q n → answer_to q entries ≡ Some answer
    → (length answer ≡ n → ⊥) → HasCause missings.WrongLength entries
other_length entries q n answer wants listed other =
    record { question = q; len = n; answer = answer; wants = wants; listed = listed; other = other }

pub misplaced : (entries : List Entry) (q : Question) (used : ℕ) → used < place_of q entries → HasCause missings.Misplaced entries
misplaced entries q used early = let within = place_within q entries in omega (arith, early, within)

pub asked_for : (q : Question) (reason : Missing) (entries : List Entry) → IsOfSuite q → answer_to q entries ≡ None
    → IsAskedFor q reason → HasCause reason entries
asked_for q (missings.Asked r) entries of none is = rw is (record { of_suite = of; unlisted = none })
asked_for q missings.NoMemory entries of none is = tt
asked_for q missings.TooLong entries of none is = tt
asked_for q missings.WrongLength entries of none is = absurd is
asked_for q missings.Contradiction entries of none is = absurd is
asked_for q missings.Misplaced entries of none is = absurd is

pub ruleset own_ciphers = (asks_seal, asks_open, asks_ctr)
