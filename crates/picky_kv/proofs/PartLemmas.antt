-- Which pairs and blocks are read, and which first refusals a pair has.
use Rattle.std.proofs.Common.{◌≡◌, ◌↔◌, ℕ, List, [], ◌∷◌}
use Rattle.std.proofs.Common.{Option, Some, None, Result, Ok, Err, refl}
use Rattle.std.proofs.Common.{ap}
use Rattle.picky_wire_base.specs.Outcome.{and_then}
use Rattle.picky_wire_base.specs.carried.Outcome.{same_pair}
use Rattle.picky_kv_words.specs.Field.{Field, field_value}
use Rattle.picky_kv.specs.Lines.{key_and_value, first_joined, next_pair, next_block}
use Rattle.picky_kv.specs.NumberFields.{count_field}
use Rattle.picky_kv.specs.Parts.{HasNoSeparator, IsPair, IsBlock}
use Rattle.picky_kv.specs.Parts.{PairsAreRead, BlocksAreRead}
use Rattle.picky_kv.specs.Context.{need, in_context, refusal_in}
use Rattle.picky_kv.specs.declared.error.KvError.{KvError}
use Rattle.picky_kv.specs.declared.error.KvError.TheVariants.{EndOfInput, InvalidKeyValueFormat}
use Rattle.picky_kv_words.specs.declared.error.PpkValueError.{PpkValueError}
use Rattle.picky_kv_words.specs.declared.error.PpkValueError.TheVariants as value
use Rattle.picky_kv.proofs.SeparatorLemmas.{some_of, cut_is, cut_of_parts, uncut_has_none, none_is_uncut}
use Rattle.picky_kv.proofs.JoinLemmas.{joined_is, is_joined}

-- ---- what is read

-- an answer: a key and a value, and the lines after them
abbrev read_as : {K V : Type 0} → K → V → List (List ℕ)
    → Result ((K × V) × List (List ℕ)) KvError
read_as k v after = Ok ((k, v), after)

-- a value that is read, behind a key
value_step : {K V : Type 0} (context : List ℕ) (read : Result V PpkValueError) (k k' : K) (v : V)
    (lines after : List (List ℕ))
    → and_then (in_context context read) (λ x. read_as k' x lines) ≡ read_as k v after
    → (k' ≡ k) × (read ≡ Ok v) × (lines ≡ after)
value_step context (Ok x) k k' v lines after is =
    let outer = same_pair (read_as k' x lines) (k', x) (k, v) lines after refl is in
    (ap (λ p. p.0) outer.0, ap (λ p. Ok p.1) outer.0, outer.1)
value_step context (Err e) k k' v lines after is = cc is

-- a key and a value that are read
key_step : {K V : Type 0} (context : List ℕ) (key : Result K PpkValueError)
    (value : Result V PpkValueError) (k : K) (v : V) (lines after : List (List ℕ))
    → and_then (in_context context key) (λ x.
    and_then (in_context context value) (λ y. read_as x y lines)) ≡ read_as k v after
    → (key ≡ Ok k) × (value ≡ Ok v) × (lines ≡ after)
key_step context (Ok x) value k v lines after is =
    let step = value_step context value k x v lines after is in
    (ap Ok step.0, step.1, step.2)
key_step context (Err e) value k v lines after is = cc is

-- a line that is cut and read
cut_step : {K V : Type 0} (context : List ℕ) (key : Field K) (value : Field V) (e : KvError)
    (found : Option (List ℕ × List ℕ)) (k : K) (v : V) (lines after : List (List ℕ))
    → need e found (λ texts.
    and_then (in_context context (field_value key texts.0)) (λ x.
    and_then (in_context context (field_value value texts.1)) (λ y. read_as x y lines)))
    ≡ read_as k v after
    → (front rest : List ℕ) × (found ≡ some_of front rest) × (field_value key front ≡ Ok k)
    × (field_value value rest ≡ Ok v) × (lines ≡ after)
cut_step context key value e (Some p) k v lines after is =
    let step = key_step context (field_value key p.0) (field_value value p.1) k v lines after is in
    (p.0, p.1, refl, step.0, step.1, step.2)
cut_step context key value e None k v lines after is = cc is

pair_is : {K V : Type 0} (key : Field K) (value : Field V) (context : List ℕ)
    (lines : List (List ℕ)) (k : K) (v : V) (after : List (List ℕ))
    → next_pair key value context lines ≡ Ok ((k, v), after) → IsPair key value lines k v after
pair_is key value context [] k v after is = cc is
pair_is key value context (line ∷ lines) k v after is =
    let step = cut_step context key value InvalidKeyValueFormat (key_and_value line) k v lines after
    is in
    record {
      line = line;
      key_text = step.0;
      value_text = step.1;
      first = ap (λ l. line ∷ l) step.5;
      parts = cut_is line step.0 step.1 step.2;
      key_is = step.3;
      value_is = step.4;
    }

is_pair : {K V : Type 0} (key : Field K) (value : Field V) (context : List ℕ)
    (lines : List (List ℕ)) (k : K) (v : V) (after : List (List ℕ))
    → IsPair key value lines k v after → next_pair key value context lines ≡ Ok ((k, v), after)
is_pair key value context lines k v after is =
    rw (is.first, cut_of_parts is.line is.key_text is.value_text is.parts, is.key_is, is.value_is)
    refl

pub pairs_are_read : {K V : Type 0} (key : Field K) (value : Field V) (context : List ℕ)
    → PairsAreRead key value context
pairs_are_read key value context lines k v after =
    (pair_is key value context lines k v after, is_pair key value context lines k v after)

-- ---- what is refused

-- the refusal of a text is neither for want of a line nor for want of a separator
refused_text : {A B : Type 0} (context : List ℕ) (read : Result A PpkValueError)
    (next : A → Result B KvError) (e : KvError)
    → ((x : A) → next x ≡ Err e → ⊥) → ((r : PpkValueError) → refusal_in context r ≡ e → ⊥)
    → and_then (in_context context read) next ≡ Err e → ⊥
refused_text context (Ok x) next e later other is = later x is
refused_text context (Err r) next e later other is = other r (cc is)

-- nor that of a key and a value
refused_texts : {K V : Type 0} (context : List ℕ) (key : Result K PpkValueError)
    (value : Result V PpkValueError) (lines : List (List ℕ)) (e : KvError)
    → ((r : PpkValueError) → refusal_in context r ≡ e → ⊥)
    → and_then (in_context context key) (λ x.
    and_then (in_context context value) (λ y. read_as x y lines)) ≡ Err e → ⊥
refused_texts context key value lines e other is =
    refused_text context key (λ x. and_then (in_context context value) (λ y. read_as x y lines)) e
    (λ x. refused_text context value (λ y. read_as x y lines) e (λ y same. cc same) other) other is

never_ended : (context : List ℕ) (r : PpkValueError) → refusal_in context r ≡ EndOfInput → ⊥
never_ended context (value.Parsing p) same = cc same
never_ended context value.TooLong same = cc same
never_ended context value.NoMemory same = cc same

never_unseparated : (context : List ℕ) (r : PpkValueError)
    → refusal_in context r ≡ InvalidKeyValueFormat → ⊥
never_unseparated context (value.Parsing p) same = cc same
never_unseparated context value.TooLong same = cc same
never_unseparated context value.NoMemory same = cc same

-- with a line left, a pair is not refused for want of one
line_is_left : {K V : Type 0} (context : List ℕ) (key : Field K) (value : Field V)
    (found : Option (List ℕ × List ℕ)) (lines : List (List ℕ))
    → need InvalidKeyValueFormat found (λ texts.
    and_then (in_context context (field_value key texts.0)) (λ x.
    and_then (in_context context (field_value value texts.1)) (λ y. read_as x y lines)))
    ≡ Err EndOfInput → ⊥
line_is_left context key value (Some p) lines is =
    refused_texts context (field_value key p.0) (field_value value p.1) lines EndOfInput
    (never_ended context) is
line_is_left context key value None lines is = cc is

-- nor for want of a separator where there is one
is_separated : {K V : Type 0} (context : List ℕ) (key : Field K) (value : Field V)
    (found : Option (List ℕ × List ℕ)) (lines : List (List ℕ))
    → need InvalidKeyValueFormat found (λ texts.
    and_then (in_context context (field_value key texts.0)) (λ x.
    and_then (in_context context (field_value value texts.1)) (λ y. read_as x y lines)))
    ≡ Err InvalidKeyValueFormat → found ≡ None
is_separated context key value (Some p) lines is =
    absurd (refused_texts context (field_value key p.0) (field_value value p.1) lines
    InvalidKeyValueFormat (never_unseparated context) is)
is_separated context key value None lines is = refl

ended_is : {K V : Type 0} (key : Field K) (value : Field V) (context : List ℕ)
    (lines : List (List ℕ)) → next_pair key value context lines ≡ Err EndOfInput → lines ≡ []
ended_is key value context [] is = refl
ended_is key value context (line ∷ lines) is =
    absurd (line_is_left context key value (key_and_value line) lines is)

pub ended_iff : {K V : Type 0} (key : Field K) (value : Field V) (context : List ℕ)
    (lines : List (List ℕ)) → next_pair key value context lines ≡ Err EndOfInput ↔ (lines ≡ [])
ended_iff key value context lines = (ended_is key value context lines, λ is. rw is refl)

pub unseparated_iff : {K V : Type 0} (key : Field K) (value : Field V) (context : List ℕ)
    (line : List ℕ) (lines : List (List ℕ))
    → next_pair key value context (line ∷ lines) ≡ Err InvalidKeyValueFormat
    ↔ HasNoSeparator line
unseparated_iff key value context line lines = (
  λ is. uncut_has_none line (is_separated context key value (key_and_value line) lines is),
  λ none. rw (none_is_uncut line none) refl,
)

-- a block whose lines are joined and read
joined_step : {K V : Type 0} (context : List ℕ) (value : Field V) (e : KvError)
    (found : Option (List ℕ × List (List ℕ))) (k k' : K) (v : V) (after : List (List ℕ))
    → need e found (λ block.
    and_then (in_context context (field_value value block.0)) (λ y. read_as k' y block.1))
    ≡ read_as k v after
    → (text : List ℕ) × (found ≡ some_of text after) × (field_value value text ≡ Ok v) × (k' ≡ k)
joined_step context value e (Some p) k k' v after is =
    let step = value_step context (field_value value p.0) k k' v p.1 after is in
    (p.0, ap (some_of p.0) step.2, step.1, step.0)
joined_step context value e None k k' v after is = cc is

-- behind a line of a key and a count
head_step : {K V : Type 0} (context : List ℕ) (value : Field V)
    (head : Result ((K × ℕ) × List (List ℕ)) KvError) (k : K) (v : V) (after : List (List ℕ))
    → and_then head (λ h. need EndOfInput (first_joined h.0.1 h.1) (λ block.
    and_then (in_context context (field_value value block.0)) (λ y. read_as h.0.0 y block.1)))
    ≡ read_as k v after
    → (count : ℕ) × (counted : List (List ℕ)) × (text : List ℕ)
    × (head ≡ read_as k count counted) × (first_joined count counted ≡ some_of text after)
    × (field_value value text ≡ Ok v)
head_step context value (Ok h) k v after is =
    let step = joined_step context value EndOfInput (first_joined h.0.1 h.1) k h.0.0 v after is in
    (h.0.1, h.1, step.0, ap (λ x. read_as x h.0.1 h.1) step.3, step.1, step.2)
head_step context value (Err e) k v after is = cc is

block_is : {K V : Type 0} (key : Field K) (value : Field V) (context : List ℕ)
    (lines : List (List ℕ)) (k : K) (v : V) (after : List (List ℕ))
    → next_block key value context lines ≡ Ok ((k, v), after)
    → IsBlock key value lines k v after
block_is key value context lines k v after is =
    let step = head_step context value (next_pair key count_field context lines) k v after is in
    record {
      count = step.0;
      counted = step.1;
      text = step.2;
      head = pair_is key count_field context lines k step.0 step.1 step.3;
      joined = joined_is step.0 step.1 step.2 after step.4;
      value_is = step.5;
    }

is_block : {K V : Type 0} (key : Field K) (value : Field V) (context : List ℕ)
    (lines : List (List ℕ)) (k : K) (v : V) (after : List (List ℕ))
    → IsBlock key value lines k v after
    → next_block key value context lines ≡ Ok ((k, v), after)
is_block key value context lines k v after is =
    rw (
      is_pair key count_field context lines k is.count is.counted is.head,
      is_joined is.count is.counted is.text after is.joined,
      is.value_is,
    ) refl

pub blocks_are_read : {K V : Type 0} (key : Field K) (value : Field V) (context : List ℕ)
    → BlocksAreRead key value context
blocks_are_read key value context lines k v after =
    (block_is key value context lines k v after, is_block key value context lines k v after)
