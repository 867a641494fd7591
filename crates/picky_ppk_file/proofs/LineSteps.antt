-- Steps of a reader of lines: a pair or a block whose value alone is read.
use Rattle.std.proofs.Common.{◌≡◌, ℕ, List, Bool, true, false, Option, Some, None, Result, Ok, Err, refl, ap, subst}
use Rattle.std.proofs.Common.{◌∙◌}
use Rattle.picky_wire_base.specs.Outcome.{and_then}
use Rattle.picky_wire_base.specs.carried.Outcome.{same_pair}
use Rattle.picky_kv.specs.Field.{Field, judged_value}
use Rattle.picky_kv.specs.Lines.{next_pair, next_block, value_alone}
use Rattle.picky_kv.specs.Parts.{IsPair, IsBlock}
use Rattle.picky_kv.specs.declared.error.KvError.{KvError}
use Rattle.picky_kv.proofs.PartLemmas.{pairs_are_read, blocks_are_read}

-- Where the first step answers Ok, the answer is the next one's.
pub then_ok : {E A B : Type 0} (r : Result A E) (next : A → Result B E) (x : A) (answer : Result B E)
    → r ≡ Ok x → next x ≡ answer → and_then r next ≡ answer
then_ok r next x answer first second = ap (λ o. and_then o next) first ∙ second

-- what is said of one answer is said of the same one
pub said_of : {A B : Type 0} (P : A → B → Type 0) (x y : A) (m n : B) → x ≡ y → m ≡ n → P x m → P y n
said_of P x y m n first second is = subst (λ b. P y b) second (subst (λ a. P a m) first is)

-- a value that is read alone stands behind a key
alone_is : {K V : Type 0} (answer : Result ((K × V) × List (List ℕ)) KvError) (v : V) (after : List (List ℕ))
    → value_alone answer ≡ Ok (v, after) → (k : K) × (answer ≡ Ok ((k, v), after))
alone_is (Ok read) v after is =
    let parts = same_pair (value_alone (Ok read)) read.0.1 v read.1 after refl is in
    (read.0.0, ap (λ x. Ok ((read.0.0, x), read.1)) parts.0 ∙ ap (λ l. Ok ((read.0.0, v), l)) parts.1)
alone_is (Err e) v after is = cc is

-- A pair whose value is read stands there.
pub pair_says : {K V : Type 0} (key : Field K) (value : Field V) (context : List ℕ) (ls : List (List ℕ))
    (read : V × List (List ℕ)) → value_alone (next_pair key value context ls) ≡ Ok read
    → (k : K) × IsPair key value ls k read.0 read.1
pair_says key value context ls read is =
    let found = alone_is (next_pair key value context ls) read.0 read.1 is in
    (found.0, (pairs_are_read key value context ls found.0 read.0 read.1).0 found.1)

-- The value of a pair that stands there is read.
pub pair_means : {K V : Type 0} (key : Field K) (value : Field V) (context : List ℕ) (ls : List (List ℕ))
    (k : K) (v : V) (after : List (List ℕ)) → IsPair key value ls k v after
    → value_alone (next_pair key value context ls) ≡ Ok (v, after)
pair_means key value context ls k v after is =
    ap (λ r. value_alone r) ((pairs_are_read key value context ls k v after).1 is)

-- A block whose value is read stands there.
pub block_says : {K V : Type 0} (key : Field K) (value : Field V) (context : List ℕ) (ls : List (List ℕ))
    (read : V × List (List ℕ)) → value_alone (next_block key value context ls) ≡ Ok read
    → (k : K) × IsBlock key value ls k read.0 read.1
block_says key value context ls read is =
    let found = alone_is (next_block key value context ls) read.0 read.1 is in
    (found.0, (blocks_are_read key value context ls found.0 read.0 read.1).0 found.1)

-- The value of a block that stands there is read.
pub block_means : {K V : Type 0} (key : Field K) (value : Field V) (context : List ℕ) (ls : List (List ℕ))
    (k : K) (v : V) (after : List (List ℕ)) → IsBlock key value ls k v after
    → value_alone (next_block key value context ls) ≡ Ok (v, after)
block_means key value context ls k v after is =
    ap (λ r. value_alone r) ((blocks_are_read key value context ls k v after).1 is)

-- A value that is given is what its text means, and not too big.
pub judged_ok : {A : Type 0} (is_big : A → Bool) (expected text : List ℕ) (meaning : Option A) (v : A)
    → judged_value is_big expected text meaning ≡ Ok v → (meaning ≡ Some v) × (is_big v ≡ false)
judged_ok is_big expected text None v is = cc is
judged_ok is_big expected text (Some w) v is = given (is_big w) refl is
  where
    given : (big : Bool) → is_big w ≡ big → judged_value is_big expected text (Some w) ≡ Ok v
        → (Some w ≡ Some v) × (is_big v ≡ false)
    given true big is = cc (rw big at is)
    given false few is =
        let same : w ≡ v = cc (rw few at is) in
        (ap Some same, rw (← same) few)
