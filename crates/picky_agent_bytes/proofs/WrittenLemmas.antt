-- A state that is written.
use Rattle.std.proofs.Common.{◌≡◌, ◌⊎◌, ◌<◌, ◌≤◌, ◌+◌, ◌∙◌, ◌++◌, ℕ, Bool, true, false, List, [], length, inl, inr, refl, sym, ap, subst, arith}
use Rattle.std.proofs.Common.{append-nil}
use Rattle.std.specs.Prelude.{All, IfOk, IsErrOf, flat_map, nat_lt, if◌then◌else◌, Option, None, Some, Result, Ok, Err}
use Rattle.std.proofs.lemmas.Bool.{lt-ltb, ltb-false}
use Rattle.std.proofs.lemmas.List.{length-append}
use Rattle.picky_wire_base.specs.Gives.{Gives}
use Rattle.picky_wire_base.specs.Wire.{string_of}
use Rattle.picky_wire_base.specs.declared.error.SizeError.{SizeError}
use Rattle.picky_wire_base.specs.declared.error.SizeError.TheVariants as sizes
use Rattle.picky_wire_base.proofs.PieceLemmas.{length-string_of}
use Rattle.picky_agent_state.specs.declared.identity.Identity.{Identity}
use Rattle.picky_agent_state.specs.Keep.{keep_limit}
use Rattle.picky_agent_state.specs.Kept.{Kept}
use Rattle.picky_agent_state.specs.Rows.{most_identities}
use Rattle.picky_agent_bytes.specs.IsState.{IsIdentity, IsPass, IsState}
use Rattle.picky_agent_bytes.specs.State.{framed, limited, lock_of, locking, state_of, state_read, written}
use Rattle.picky_agent_bytes.proofs.SpelledLemmas.{state_reads_back}

-- ---- what is written

pub gives_written : {X : Type 0} (view : X → List ℕ) (kept : Kept) (bytes : List ℕ) (r : Result X SizeError) → state_of kept ≡ bytes
    → Gives sizes.NoMemory view r (limited bytes) → Gives sizes.NoMemory view r (written kept)
gives_written view kept bytes r same gives = subst (λ (b : List ℕ). Gives sizes.NoMemory view r (limited b)) (sym same) gives

reads_limited : (b : Bool) (kept : Kept) (bytes out : List ℕ) → nat_lt keep_limit (length bytes) ≡ b → IsState kept
    → state_of kept ≡ bytes → ◌≡◌ {A = Result (List ℕ) SizeError} (if b then Err sizes.TooLong else Ok bytes) (Ok out)
    → state_read out ≡ Ok kept
reads_limited true kept bytes out test is same gives = cc gives
reads_limited false kept bytes out test is same gives =
    let one : bytes ≡ out = cc gives in
    let short : length (state_of kept) ≤ keep_limit = omega (arith, ap length same, ltb-false keep_limit (length bytes) test) in
    ap state_read (sym one) ∙ ap state_read (sym same) ∙ state_reads_back kept is short

pub written_reads : {X : Type 0} (view : X → List ℕ) (kept : Kept) (bytes : List ℕ) (r : Result X SizeError) → IsState kept
    → state_of kept ≡ bytes → Gives sizes.NoMemory view r (limited bytes) → IfOk r (λ x. state_read (view x) ≡ Ok kept)
written_reads view kept bytes (Ok x) is same gives =
    reads_limited (nat_lt keep_limit (length bytes)) kept bytes (view x) refl is same gives
written_reads view kept bytes (Err e) is same gives = tt

-- ---- what it is

pub open_state : (kept : Kept) (identities : List Identity) (start out : List ℕ) → identities ≡ kept.identities → kept.pass ≡ None
    → start ≡ [] → out ≡ start ++ flat_map framed identities → state_of kept ≡ out
unfolding state_of
open_state kept identities start out all unlocked empty out_is =
    ap (λ (p : Option (List ℕ)). flat_map framed kept.identities ++ lock_of p) unlocked
    ∙ append-nil (flat_map framed kept.identities)
    ∙ ap (λ (is : List Identity). flat_map framed is) (sym all)
    ∙ ap (λ (s : List ℕ). s ++ flat_map framed identities) (sym empty)
    ∙ sym out_is

pub locked_state : (kept : Kept) (identities : List Identity) (pass start out all : List ℕ) → identities ≡ kept.identities
    → kept.pass ≡ Some pass → start ≡ [] → out ≡ start ++ flat_map framed identities → all ≡ out ++ string_of (locking pass)
    → state_of kept ≡ all
unfolding state_of
locked_state kept identities pass start out all each locked empty out_is all_is =
    ap (λ (p : Option (List ℕ)). flat_map framed kept.identities ++ lock_of p) locked
    ∙ ap (λ (is : List Identity). flat_map framed is ++ string_of (locking pass)) (sym each)
    ∙ ap (λ (s : List ℕ). (s ++ flat_map framed identities) ++ string_of (locking pass)) (sym empty)
    ∙ ap (λ (o : List ℕ). o ++ string_of (locking pass)) (sym out_is)
    ∙ sym all_is

pub is_open_state : (kept : Kept) (identities : List Identity) → identities ≡ kept.identities → length identities ≤ most_identities
    → All IsIdentity identities → kept.pass ≡ None → IsState kept
is_open_state kept identities all few are unlocked = record {
  few = omega (arith, few, ap length all);
  are = subst (All IsIdentity) all are;
  pass = subst IsPass (sym unlocked) tt;
}

pub is_locked_state : (kept : Kept) (identities : List Identity) (pass : List ℕ) → identities ≡ kept.identities
    → length identities ≤ most_identities → All IsIdentity identities → kept.pass ≡ Some pass → length pass < keep_limit → IsState kept
is_locked_state kept identities pass all few are locked short =
    let fits : IsPass (Some pass) = omega (arith, short) in record {
      few = omega (arith, few, ap length all);
      are = subst (All IsIdentity) all are;
      pass = subst IsPass (sym locked) fits;
    }

-- ---- one message that is too long makes all too long

too_long : (kept : Kept) → keep_limit < length (state_of kept) → written kept ≡ Err sizes.TooLong
too_long kept long = ap (λ (b : Bool). if b then Err sizes.TooLong else Ok (state_of kept)) (lt-ltb keep_limit (length (state_of kept)) long)

state_len : (kept : Kept) → length (state_of kept) ≡ length (flat_map framed kept.identities) + length (lock_of kept.pass)
unfolding state_of
state_len kept = length-append (flat_map framed kept.identities) (lock_of kept.pass)

pub long_identities : (kept : Kept) (identities : List Identity) (e : SizeError) → identities ≡ kept.identities
    → (IsErrOf {T = Unit {0}} (Err e) sizes.TooLong → keep_limit < length (flat_map framed identities))
    → (e ≡ sizes.NoMemory) ⊎ (written kept ≡ Err e)
long_identities kept identities sizes.TooLong all long =
    inr (too_long kept (omega (arith, long refl, ap (λ (is : List Identity). length (flat_map framed is)) all, state_len kept)))
long_identities kept identities sizes.NoMemory all long = inl refl

pub long_lock : (kept : Kept) (pass : List ℕ) (e : SizeError) → kept.pass ≡ Some pass
    → (IsErrOf {T = Unit {0}} (Err e) sizes.TooLong → keep_limit < length (locking pass))
    → (e ≡ sizes.NoMemory) ⊎ (written kept ≡ Err e)
long_lock kept pass sizes.TooLong locked long =
    let lock : length (lock_of kept.pass) ≡ length (string_of (locking pass)) =
    ap (λ (p : Option (List ℕ)). length (lock_of p)) locked in
    inr (too_long kept (omega (arith, long refl, lock, length-string_of (locking pass), state_len kept)))
long_lock kept pass sizes.NoMemory locked long = inl refl
