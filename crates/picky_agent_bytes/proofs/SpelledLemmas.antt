-- A state that is spelled is read back.
use Rattle.std.proofs.Common.{◌≡◌, ◌<◌, ◌≤◌, ◌+◌, ◌∙◌, ◌++◌, ◌^◌, ℕ, List, [], ◌∷◌, length, refl, sym, ap, arith}
use Rattle.std.proofs.Common.{append_assoc, append-nil}
use Rattle.std.specs.Prelude.{All, Bool, flat_map, if◌then◌else◌, Option, None, Some, Result, Ok, Err}
use Rattle.std.proofs.lemmas.Bool.{le-ltb, lt-leb}
use Rattle.std.proofs.lemmas.List.Elements.{All-head, All-tail}
use Rattle.std.proofs.lemmas.List.{length-append}
use Rattle.picky_wire_base.specs.Outcome.{and_then, map_err}
use Rattle.picky_wire_base.specs.Wire.{string_of}
use Rattle.picky_wire_base.proofs.PieceLemmas.{length-string_of}
use Rattle.picky_wire_base.proofs.Strings.{string_reads_back, string_spells, text_spells}
use Rattle.picky_sshkey_blob.specs.Blob.{secret_of}
use Rattle.picky_sshkey_blob.specs.carried.Blob.{secret_spells}
use Rattle.picky_agent_state.specs.declared.identity.Identity.{Identity}
use Rattle.picky_agent_state.specs.declared.keep.KeepError.{KeepError}
use Rattle.picky_agent_state.specs.declared.keep.KeepError.TheVariants as keeps
use Rattle.picky_agent_state.specs.Keep.{keep_limit, kept_with}
use Rattle.picky_agent_state.specs.Kept.{Kept, new_agent}
use Rattle.picky_agent_state.specs.Request.{Request, Add, Lock, add_fields, lock_fields, request_of, request_read}
use Rattle.picky_agent_state.specs.Rows.{most_identities}
use Rattle.picky_agent_bytes.specs.declared.error.AgentBytesError.{AgentBytesError}
use Rattle.picky_agent_bytes.specs.declared.error.AgentBytesError.TheVariants as errors
use Rattle.picky_agent_bytes.specs.IsState.{IsIdentity, IsPass, IsState}
use Rattle.picky_agent_bytes.specs.State.{adding, brought, canonical, cut_string, framed, keep_refusal, lock_of, locking, state_of, state_read}
use Rattle.picky_agent_bytes.proofs.StateLemmas.{brought_first, brought_none, is_canonical}

-- ---- what the two messages ask

adding_spells : (identity : Identity) → IsIdentity identity
    → add_fields.piece (Add identity) (secret_of identity.key ++ string_of identity.comment)
unfolding add_fields
adding_spells identity is = (
  identity.key,
  secret_of identity.key,
  string_of identity.comment,
  secret_spells identity.key is.key,
  (
    identity.comment,
    string_of identity.comment,
    [],
    text_spells identity.comment is.comment.string.short is.comment.utf8,
    (refl, refl),
    sym (append-nil (string_of identity.comment)),
  ),
  refl,
)

pub adding_asks : (identity : Identity) → IsIdentity identity → request_of (adding identity) ≡ Add identity
unfolding request_of adding
adding_asks identity is =
    ap request_read
    (ap (λ (b : List ℕ). add_fields.read b) (sym (append-nil (secret_of identity.key ++ string_of identity.comment)))
    ∙ add_fields.complete (Add identity) (secret_of identity.key ++ string_of identity.comment) [] (adding_spells identity is))

locking_spells : (pass : List ℕ) → length pass < 2 ^ 32 → lock_fields.piece (Lock pass) (string_of pass)
unfolding lock_fields
locking_spells pass short = (pass, string_of pass, [], string_spells pass short, (refl, refl), sym (append-nil (string_of pass)))

pub locking_asks : (pass : List ℕ) → length pass < 2 ^ 32 → request_of (locking pass) ≡ Lock pass
unfolding request_of locking
locking_asks pass short =
    ap request_read
    (ap (λ (b : List ℕ). lock_fields.read b) (sym (append-nil (string_of pass)))
    ∙ lock_fields.complete (Lock pass) (string_of pass) [] (locking_spells pass short))

-- ---- what one of them brings

cut_first : (message rest : List ℕ) → length message < 2 ^ 32 → cut_string (string_of message ++ rest) ≡ Ok (message, rest)
cut_first message rest short = ap (map_err (λ _. errors.Short)) (string_reads_back message rest short)

one_brought : (kept next : Kept) (message rest : List ℕ) (request : Request) → length message < 2 ^ 32
    → request_of message ≡ request → kept_with kept request ≡ Ok next
    → brought kept (string_of message ++ rest) ≡ brought next rest
one_brought kept next message rest request short asks brings =
    brought_first kept (string_of message ++ rest) message rest
    (omega (arith, length-append (string_of message) rest, length-string_of message)) (cut_first message rest short)
    ∙ ap (λ (r : Request). and_then (map_err keep_refusal (kept_with kept r)) (λ next. brought next rest)) asks
    ∙ ap (λ (r : Result Kept KeepError). and_then (map_err keep_refusal r) (λ next. brought next rest)) brings

-- ---- what all of them bring

-- these identities behind those that are kept
abbrev with_identities : Kept → List Identity → Kept
with_identities kept more = record kept { identities = kept.identities ++ more }

has_room : (kept : Kept) (identity : Identity) → length kept.identities < most_identities
    → kept_with kept (Add identity) ≡ Ok (with_identities kept (identity ∷ []))
has_room kept identity few =
    ap
    (λ (b : Bool). if b then Err keeps.TooMany else Ok (with_identities kept (identity ∷ [])))
    (lt-leb most_identities (length kept.identities) few)

-- one identity more, and then the others
with_more : (kept : Kept) (identity : Identity) (more : List Identity)
    → with_identities (with_identities kept (identity ∷ [])) more ≡ with_identities kept (identity ∷ more)
with_more kept identity more =
    ap (λ (is : List Identity). record kept { identities = is }) (append_assoc kept.identities (identity ∷ []) more)

with_none : (kept : Kept) → kept ≡ with_identities kept []
with_none kept = ap (λ (is : List Identity). record kept { identities = is }) (sym (append-nil kept.identities))

identities_brought : (kept : Kept) (more : List Identity) (rest : List ℕ) → All IsIdentity more
    → length kept.identities + length more ≤ most_identities → length (flat_map framed more) ≤ keep_limit
    → brought kept (flat_map framed more ++ rest) ≡ brought (with_identities kept more) rest
identities_brought kept [] rest are few short = ap (λ (k : Kept). brought k rest) (with_none kept)
identities_brought kept (identity ∷ more) rest are few short =
    let len = length-append (framed identity) (flat_map framed more) in
    let own = length-string_of (adding identity) in
    let total : length (framed identity ++ flat_map framed more) ≤ keep_limit = short in
    let room : length (kept.identities ++ identity ∷ []) + length more ≤ most_identities =
    omega (arith, few, length-append kept.identities (identity ∷ [])) in
    ap (λ (b : List ℕ). brought kept b) (append_assoc (framed identity) (flat_map framed more) rest)
    ∙ one_brought kept (with_identities kept (identity ∷ [])) (adding identity) (flat_map framed more ++ rest) (Add identity)
    (omega (arith, total, len, own)) (adding_asks identity (All-head IsIdentity identity more are)) (has_room kept identity (omega (arith, few)))
    ∙ identities_brought (with_identities kept (identity ∷ [])) more rest (All-tail IsIdentity identity more are)
    room (omega (arith, total, len))
    ∙ ap (λ (k : Kept). brought k rest) (with_more kept identity more)

lock_brought : (kept : Kept) (pass : Option (List ℕ)) → kept.pass ≡ None → IsPass pass → length (lock_of pass) ≤ keep_limit
    → brought kept (lock_of pass) ≡ Ok (record kept { pass = pass })
lock_brought kept None unlocked short few =
    brought_none kept [] refl ∙ ap (λ (p : Option (List ℕ)). Ok (record kept { pass = p })) unlocked
lock_brought kept (Some pass) unlocked short few =
    ap (λ (b : List ℕ). brought kept b) (sym (append-nil (string_of (locking pass))))
    ∙ one_brought kept (record kept { pass = Some pass }) (locking pass) [] (Lock pass)
    (omega (arith, few, length-string_of (locking pass))) (locking_asks pass short) refl
    ∙ brought_none (record kept { pass = Some pass }) [] refl

state_brought : (kept : Kept) → IsState kept → length (state_of kept) ≤ keep_limit → brought new_agent (state_of kept) ≡ Ok kept
unfolding state_of
state_brought kept is short =
    let len = length-append (flat_map framed kept.identities) (lock_of kept.pass) in
    identities_brought new_agent kept.identities (lock_of kept.pass) is.are (omega (arith, is.few)) (omega (arith, short, len))
    ∙ lock_brought (with_identities new_agent kept.identities) kept.pass refl is.pass (omega (arith, short, len))

-- ---- the laws

pub state_reads_back : (kept : Kept) → IsState kept → length (state_of kept) ≤ keep_limit → state_read (state_of kept) ≡ Ok kept
state_reads_back kept is short =
    ap
    (λ (b : Bool). if b then Err errors.TooLong else and_then (brought new_agent (state_of kept)) (canonical (state_of kept)))
    (le-ltb keep_limit (length (state_of kept)) short)
    ∙ ap (λ (r : Result Kept AgentBytesError). and_then r (canonical (state_of kept))) (state_brought kept is short)
    ∙ is_canonical (state_of kept) kept refl
