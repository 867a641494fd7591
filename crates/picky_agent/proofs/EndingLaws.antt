-- The laws of endings: a stream has one list of messages in front, and one ending.
use Rattle.std.proofs.Common.{◌≡◌, ◌<◌, ◌^◌, ◌++◌, ◌∙◌, ℕ, List, [], ◌∷◌, length, sym, ap, subst, refl, arith, inl, inr, append_assoc}
use Rattle.std.specs.Prelude.{flat_map, map, Err}
use Rattle.std.specs.Int.{w32, to_be_bytes}
use Rattle.std.specs.List.{AllByRecursion}
use Rattle.std.proofs.lemmas.List.{length-append}
use Rattle.std.proofs.lemmas.List.Folds.{flat_map-map}
use Rattle.picky_wire_base.specs.Wire.{string, string_of, uint32}
use Rattle.picky_wire_base.proofs.Grammar.{one_front}
use Rattle.picky_wire_base.proofs.Numbers.{uint32_spells}
use Rattle.picky_wire_base.proofs.Strings.{string_spells}
use Rattle.picky_agent_state.specs.Kept.{Kept}
use Rattle.picky_agent_state.specs.Message.{IsMessage}
use Rattle.picky_agent_state.specs.Request.{Request, Identities, Sign, Add, Remove, RemoveAll, Lock, Unlock, Unfit, request_of}
use Rattle.picky_agent_state.specs.Step.{AsksSigner}
use Rattle.picky_agent.specs.declared.status.AgentStatus.{AgentStatus}
use Rattle.picky_agent.specs.declared.status.AgentStatus.TheVariants as statuses
use Rattle.picky_suite.specs.Signs.{SignRelation}
use Rattle.picky_agent.specs.Run.{Exchange, IsExchange, asked}
use Rattle.picky_agent.specs.Served.{ReadsMessages, Scene, Served}
use Rattle.picky_agent.specs.Ending.{Ending, AtMessage, AtBadLength, InMessage, EndsAs, HasNoSign, IsEnding, IsOther, Tells}

-- one number stands in front of bytes
one_number : (a b : ℕ) (x y : List ℕ) → a < 2 ^ 32 → b < 2 ^ 32 → to_be_bytes w32 a ++ x ≡ to_be_bytes w32 b ++ y
    → (a ≡ b) × (x ≡ y)
one_number a b x y small other same =
    let one = one_front uint32 a b (to_be_bytes w32 a) (to_be_bytes w32 b) x y (uint32_spells a small) (uint32_spells b other) same in
    (one.value, one.rest)

-- and so one message
one_message : (m n x y : List ℕ) → IsMessage m → IsMessage n → string_of m ++ x ≡ string_of n ++ y → (m ≡ n) × (x ≡ y)
one_message m n x y is other same =
    let one = one_front string m n (string_of m) (string_of n) x y (string_spells m (omega (arith, is.few)))
    (string_spells n (omega (arith, other.few))) same in
    (one.value, one.rest)

-- a message is its length and its bytes
in_parts : (n y : List ℕ) → string_of n ++ y ≡ to_be_bytes w32 (length n) ++ (n ++ y)
unfolding string_of
in_parts n y = append_assoc (to_be_bytes w32 (length n)) n y

-- a message and what follows it are more than four bytes
longer : (rest n y : List ℕ) → IsMessage n → rest ≡ string_of n ++ y → 4 < length rest
longer rest n y is same =
    omega (arith, ap length (same ∙ in_parts n y), length-append (to_be_bytes w32 (length n)) (n ++ y), length-append n y, is.some)

-- where a message stands nothing ends
no_ending : (ending : Ending) (rest n y : List ℕ) → IsMessage n → rest ≡ string_of n ++ y → IsEnding ending rest → ⊥
no_ending AtMessage rest n y is same ends = omega (arith, longer rest n y is same, ap length ends)
no_ending AtBadLength rest n y is same (more, bad) =
    let number = one_number bad.len (length n) more (n ++ y) bad.fits (omega (arith, is.few)) (sym bad.are ∙ same ∙ in_parts n y) in
    elim bad.bad [
      | inl zero_len ↦ omega (arith, number.0, zero_len, is.some)
      | inr large ↦ omega (arith, number.0, large, is.few)
    ]
no_ending InMessage rest n y is same (inl short) = omega (arith, longer rest n y is same, short.1)
no_ending InMessage rest n y is same (inr cut) =
    let number = one_number cut.len (length n) cut.part (n ++ y) (omega (arith, cut.few)) (omega (arith, is.few))
    (sym cut.are ∙ same ∙ in_parts n y) in
    omega (arith, number.0, ap length number.1, length-append n y, cut.less)

-- no bytes end in two ways
bad_is_not_cut : (rest : List ℕ) → IsEnding AtBadLength rest → IsEnding InMessage rest → ⊥
bad_is_not_cut rest (more, bad) (inl short) =
    omega (arith, ap length bad.are, length-append (to_be_bytes w32 bad.len) more, short.1)
bad_is_not_cut rest (more, bad) (inr cut) =
    let number = one_number bad.len cut.len more cut.part bad.fits (omega (arith, cut.few)) (sym bad.are ∙ cut.are) in
    elim bad.bad [
      | inl zero_len ↦ omega (arith, number.0, zero_len, cut.some)
      | inr large ↦ omega (arith, number.0, large, cut.few)
    ]

end_is_not_bad : (rest : List ℕ) → rest ≡ [] → IsEnding AtBadLength rest → ⊥
end_is_not_bad rest none (more, bad) =
    omega (arith, ap length (sym none ∙ bad.are), length-append (to_be_bytes w32 bad.len) more)

end_is_not_cut : (rest : List ℕ) → rest ≡ [] → IsEnding InMessage rest → ⊥
end_is_not_cut rest none (inl short) = omega (arith, ap length none, short.0)
end_is_not_cut rest none (inr cut) =
    omega (arith, ap length (sym none ∙ cut.are), length-append (to_be_bytes w32 cut.len) cut.part)

one_way : (e f : Ending) (rest : List ℕ) → IsEnding e rest → IsEnding f rest → e ≡ f
one_way AtMessage AtMessage rest first second = refl
one_way AtMessage AtBadLength rest first second = absurd (end_is_not_bad rest first second)
one_way AtMessage InMessage rest first second = absurd (end_is_not_cut rest first second)
one_way AtBadLength AtMessage rest first second = absurd (end_is_not_bad rest second first)
one_way AtBadLength AtBadLength rest first second = refl
one_way AtBadLength InMessage rest first second = absurd (bad_is_not_cut rest first second)
one_way InMessage AtMessage rest first second = absurd (end_is_not_cut rest second first)
one_way InMessage AtBadLength rest first second = absurd (bad_is_not_cut rest second first)
one_way InMessage InMessage rest first second = refl

-- ---- after any number of messages

-- the messages and what follows the first
behind : (m : List ℕ) (ms : List (List ℕ)) (rest : List ℕ)
    → flat_map string_of (m ∷ ms) ++ rest ≡ string_of m ++ (flat_map string_of ms ++ rest)
behind m ms rest = append_assoc (string_of m) (flat_map string_of ms) rest

one_list : (ms ns : List (List ℕ)) (e f : Ending) (x y : List ℕ) → AllByRecursion IsMessage ms → AllByRecursion IsMessage ns
    → IsEnding e x → IsEnding f y → flat_map string_of ms ++ x ≡ flat_map string_of ns ++ y → (ms ≡ ns) × (e ≡ f)
one_list [] [] e f x y each other first second same =
    (refl, one_way e f y (subst (IsEnding e) same first) second)
one_list [] (n ∷ ns) e f x y each (is, other) first second same =
    absurd (no_ending e x n (flat_map string_of ns ++ y) is (same ∙ behind n ns y) first)
one_list (m ∷ ms) [] e f x y (is, each) other first second same =
    absurd (no_ending f y m (flat_map string_of ms ++ x) is (sym same ∙ behind m ms x) second)
one_list (m ∷ ms) (n ∷ ns) e f x y (is, each) (also, other) first second same =
    let front = one_message m n (flat_map string_of ms ++ x) (flat_map string_of ns ++ y) is also
    (sym (behind m ms x) ∙ same ∙ behind n ns y) in
    let more = one_list ms ns e f x y each other first second front.1 in
    (ap (λ k. k ∷ ms) front.0 ∙ ap (λ l. n ∷ l) more.0, more.1)

-- a stream begins with one list of messages, and ends in one way
pub one_ending : (stream : List ℕ) (ms ns : List (List ℕ)) (e f : Ending) → EndsAs stream ms e → EndsAs stream ns f
    → (ms ≡ ns) × (e ≡ f)
one_ending stream ms ns e f first second =
    one_list ms ns e f first.rest second.rest first.each second.each first.ends second.ends (sym first.are ∙ second.are)

-- ---- where no signature is asked

-- what asks for none asks no signer
pub other_asks_none : (kept : Kept) (request : Request) → IsOther request → AsksSigner kept request → ⊥
other_asks_none kept Identities other asks = asks
other_asks_none kept (Sign asked) other asks = other
other_asks_none kept (Add added) other asks = asks
other_asks_none kept (Remove key) other asks = asks
other_asks_none kept RemoveAll other asks = asks
other_asks_none kept (Lock pass) other asks = asks
other_asks_none kept (Unlock pass) other asks = asks
other_asks_none kept Unfit other asks = asks

-- nor does the message in front, nor what follows it
pub no_sign_behind : (stream m rest : List ℕ) → IsMessage m → stream ≡ string_of m ++ rest → HasNoSign stream
    → IsOther (request_of m) × HasNoSign rest
no_sign_behind stream m rest is same none = go none.messages none.ending none.ends none.none
  where
    go : (ms : List (List ℕ)) (ending : Ending) → EndsAs stream ms ending → AllByRecursion (λ k. IsOther (request_of k)) ms
        → IsOther (request_of m) × HasNoSign rest
    go [] ending ends others = absurd (no_ending ending ends.rest m rest is (sym ends.are ∙ same) ends.ends)
    go (n ∷ ns) ending ends (other, others) =
        let front = one_message n m (flat_map string_of ns ++ ends.rest) rest ends.each.0 is
        (sym (behind n ns ends.rest) ∙ sym ends.are ∙ same) in (
          subst (λ (k : List ℕ). IsOther (request_of k)) front.0 other,
          record {
            messages = ns;
            ending = ending;
            ends = record { each = ends.each.1; rest = ends.rest; are = sym front.1; ends = ends.ends };
            none = others;
          },
        )

-- ---- how serving ends

abbrev messages_of : List Exchange → List (List ℕ)
messages_of exchanges = map (λ x. x.message) exchanges

each_message : (xs : List Exchange) → AllByRecursion IsExchange xs → AllByRecursion IsMessage (messages_of xs)
each_message [] each = tt
each_message (x ∷ xs) (is, each) = (is, each_message xs each)

asked_are : (xs : List Exchange) → asked xs ≡ flat_map string_of (messages_of xs)
asked_are xs = sym (flat_map-map string_of (λ x. x.message) xs)

-- a stream whose rest ends so, ends so
ended : (ending : Ending) (xs : List Exchange) (stream rest : List ℕ) → AllByRecursion IsExchange xs → stream ≡ asked xs ++ rest
    → IsEnding ending rest → EndsAs stream (messages_of xs) ending
ended ending xs stream rest each are ends = record {
  each = each_message xs each;
  rest = rest;
  are = are ∙ ap (λ a. a ++ rest) (asked_are xs);
  ends = ends;
}

-- the messages that were answered are those of the stream, and the status says how it ends
pub tells_ending : (status : AgentStatus) (xs : List Exchange) (stream left : List ℕ) (ms : List (List ℕ)) (ending : Ending)
    → AllByRecursion IsExchange xs → ReadsMessages (Err status) xs stream left → EndsAs stream ms ending → Tells status ending
tells_ending statuses.Done xs stream left ms ending each reads ends =
    (one_ending stream ms (messages_of xs) ending AtMessage ends (ended AtMessage xs stream reads.rest each reads.are reads.halts)).1
tells_ending statuses.BadFrame xs stream left ms ending each reads ends =
    (one_ending stream ms (messages_of xs) ending AtBadLength ends
    (ended AtBadLength xs stream reads.rest each reads.are (left, reads.halts))).1
tells_ending statuses.Cut xs stream left ms ending each reads ends =
    (one_ending stream ms (messages_of xs) ending InMessage ends (ended InMessage xs stream reads.rest each reads.are reads.halts)).1
tells_ending statuses.ReadFault xs stream left ms ending each reads ends = tt
tells_ending statuses.WriteFault xs stream left ms ending each reads ends = tt
tells_ending statuses.NoMemory xs stream left ms ending each reads ends = tt
tells_ending statuses.TooMany xs stream left ms ending each reads ends = tt

-- and so of all that was served
pub served_tells : (signs : SignRelation) (tells_in tells_out : Type 0) (status : AgentStatus) (old new : Scene)
    → Served signs tells_in tells_out status old new → tells_in → (ms : List (List ℕ)) (ending : Ending)
    → EndsAs old.left ms ending → Tells status ending
served_tells signs tells_in tells_out status old new served told ms ending ends =
    tells_ending status served.serves.exchanges old.left new.left ms ending served.serves.each (served.serves.reads told) ends
