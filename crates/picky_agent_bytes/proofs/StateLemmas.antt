-- What messages bring, one after another, as a loop takes them.
use Rattle.std.proofs.Common.{◌≡◌, ◌<◌, ◌≤◌, ◌∙◌, ℕ, zero, suc, List, [], ◌∷◌, length, refl, sym, ap, subst, arith}
use Rattle.std.specs.Prelude.{Bool, true, false, bytes_eq, if◌then◌else◌, Result, Ok, Err}
use Rattle.std.proofs.lemmas.List.{nil_from_length}
use Rattle.std.proofs.lemmas.Slice.Eq.{bytes_eq-Decides}
use Rattle.picky_wire_base.specs.Outcome.{and_then, map_err}
use Rattle.picky_wire_base.specs.carried.Outcome.{map_err_ok}
use Rattle.picky_wire_base.specs.Wire.{string}
use Rattle.picky_wire_base.proofs.Solid.{read_shortens, string_solid}
use Rattle.picky_agent_state.specs.declared.keep.KeepError.{KeepError}
use Rattle.picky_agent_state.specs.Keep.{keep_limit, kept_with}
use Rattle.picky_agent_state.specs.Kept.{Kept}
use Rattle.picky_agent_state.specs.Request.{request_of}
use Rattle.picky_agent_bytes.specs.declared.error.AgentBytesError.{AgentBytesError}
use Rattle.picky_agent_bytes.specs.declared.error.AgentBytesError.TheVariants as errors
use Rattle.picky_agent_bytes.specs.State.{brought, brought_within, canonical, cut_string, keep_refusal, state_of, with_message}

-- ---- more messages than there are bytes make no difference

within_nil : (most : ℕ) (kept : Kept) → brought_within most kept [] ≡ Ok kept
within_nil zero kept = refl
within_nil (suc most) kept = refl

same_next : {E A B : Type 0} (r : Result A E) (next next' : A → Result B E)
    → ((x : A) → r ≡ Ok x → next x ≡ next' x) → and_then r next ≡ and_then r next'
same_next (Ok x) next next' same = same x refl
same_next (Err e) next next' same = refl

-- what follows a message is shorter
pub rest_shorter : (bytes message rest : List ℕ) → cut_string bytes ≡ Ok (message, rest) → length rest < length bytes
rest_shorter bytes message rest is =
    read_shortens string string_solid bytes message rest (map_err_ok (λ _. errors.Short) (string.read bytes) (message, rest) is)

within_same : (m n : ℕ) (kept : Kept) (bytes : List ℕ) → length bytes ≤ m → length bytes ≤ n
    → brought_within m kept bytes ≡ brought_within n kept bytes
within_same m n kept [] few few' = within_nil m kept ∙ sym (within_nil n kept)
within_same zero n kept (b ∷ bytes) few few' = absurd (omega arith)
within_same (suc m) zero kept (b ∷ bytes) few few' = absurd (omega arith)
within_same (suc m) (suc n) kept (b ∷ bytes) few few' =
    same_next (cut_string (b ∷ bytes))
    (λ first. and_then (with_message kept first.0) (λ next. brought_within m next first.1))
    (λ first. and_then (with_message kept first.0) (λ next. brought_within n next first.1))
    (λ first is.
    let fewer = rest_shorter (b ∷ bytes) first.0 first.1 is in
    same_next (with_message kept first.0) (λ next. brought_within m next first.1) (λ next. brought_within n next first.1)
    (λ next _. within_same m n next first.1 (omega (arith, fewer, few)) (omega (arith, fewer, few'))))

-- ---- one message

-- after the last one nothing is brought
pub brought_none : (kept : Kept) (bytes : List ℕ) → length bytes ≡ 0 → brought kept bytes ≡ Ok kept
unfolding brought
brought_none kept bytes empty = ap (λ b. brought_within (length b) kept b) (nil_from_length bytes empty)

-- the one in front, and then those of the rest
pub brought_first : (kept : Kept) (bytes message rest : List ℕ) → 0 < length bytes → cut_string bytes ≡ Ok (message, rest)
    → brought kept bytes ≡ and_then (with_message kept message) (λ next. brought next rest)
unfolding brought
brought_first kept [] message rest some is = absurd (omega arith)
brought_first kept (b ∷ bytes) message rest some is =
    let fewer = rest_shorter (b ∷ bytes) message rest is in
    ap (λ (r : Result (List ℕ × List ℕ) AgentBytesError). and_then r
    (λ first. and_then (with_message kept first.0) (λ next. brought_within (length bytes) next first.1))) is
    ∙ same_next (with_message kept message) (λ next. brought_within (length bytes) next rest)
    (λ next. brought_within (length rest) next rest)
    (λ next _. within_same (length bytes) (length rest) next rest (omega (arith, fewer)) (omega arith))

pub brought_more : (kept next : Kept) (bytes message rest : List ℕ) → 0 < length bytes → cut_string bytes ≡ Ok (message, rest)
    → with_message kept message ≡ Ok next → brought kept bytes ≡ brought next rest
brought_more kept next bytes message rest some is brings =
    brought_first kept bytes message rest some is
    ∙ ap (λ (r : Result Kept AgentBytesError). and_then r (λ next. brought next rest)) brings

-- one that is cut, and one that brings nothing
pub brought_cut : (kept : Kept) (bytes : List ℕ) (e : AgentBytesError) → 0 < length bytes → cut_string bytes ≡ Err e
    → brought kept bytes ≡ Err e
unfolding brought
brought_cut kept [] e some cut = absurd (omega arith)
brought_cut kept (b ∷ bytes) e some cut =
    ap (λ (r : Result (List ℕ × List ℕ) AgentBytesError). and_then r
    (λ first. and_then (with_message kept first.0) (λ next. brought_within (length bytes) next first.1))) cut

pub brought_refused : (kept : Kept) (bytes message rest : List ℕ) (e : AgentBytesError) → 0 < length bytes
    → cut_string bytes ≡ Ok (message, rest) → with_message kept message ≡ Err e → brought kept bytes ≡ Err e
brought_refused kept bytes message rest e some is refused =
    brought_first kept bytes message rest some is
    ∙ ap (λ (r : Result Kept AgentBytesError). and_then r (λ next. brought next rest)) refused

pub brought_not : (kept : Kept) (bytes message rest : List ℕ) (e : KeepError) (f : AgentBytesError) → f ≡ keep_refusal e
    → 0 < length bytes → cut_string bytes ≡ Ok (message, rest) → kept_with kept (request_of message) ≡ Err e
    → brought kept bytes ≡ Err f
brought_not kept bytes message rest e f same some is refused =
    let brings : with_message kept message ≡ Err (keep_refusal e) = ap (map_err keep_refusal) refused in
    brought_refused kept bytes message rest f some is
    (subst (λ (g : AgentBytesError). with_message kept message ≡ Err g) (sym same) brings)

-- ---- the one spelling

pub is_canonical : (bytes : List ℕ) (kept : Kept) → state_of kept ≡ bytes → canonical bytes kept ≡ Ok kept
is_canonical bytes kept same =
    ap (λ (b : Bool). if b then Ok kept else Err errors.NotCanonical) ((bytes_eq-Decides (state_of kept) bytes).1 same)

pub not_canonical : (bytes : List ℕ) (kept : Kept) → (state_of kept ≡ bytes → ⊥) → canonical bytes kept ≡ Err errors.NotCanonical
not_canonical bytes kept other = go (bytes_eq (state_of kept) bytes) refl
  where
    go : (b : Bool) → bytes_eq (state_of kept) bytes ≡ b → canonical bytes kept ≡ Err errors.NotCanonical
    go true same = absurd (other ((bytes_eq-Decides (state_of kept) bytes).0 same))
    go false same = ap (λ (b : Bool). if b then Ok kept else Err errors.NotCanonical) same

-- bytes that are short are no spelling that is long
pub too_long_is_other : (bytes : List ℕ) (kept : Kept) → length bytes ≤ keep_limit → keep_limit < length (state_of kept)
    → canonical bytes kept ≡ Err errors.NotCanonical
too_long_is_other bytes kept few many =
    not_canonical bytes kept (λ same. let len = ap length same in absurd (omega (arith, len, few, many)))
