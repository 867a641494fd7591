-- The identity that a message adds.
use Rattle.std.proofs.Common.{◌≡◌, ◌∙◌, List, [], ◌∷◌, length, refl, sym, ap}
use Rattle.std.specs.Prelude.{Some, Result, Ok, Err}
use Rattle.picky_wire_base.specs.Outcome.{map_ok}
use Rattle.picky_agent_state.specs.declared.identity.Identity.{Identity}
use Rattle.picky_agent_state.specs.declared.keep.KeepError.{KeepError}
use Rattle.picky_agent_state.specs.Keep.{kept_with}
use Rattle.picky_agent_state.specs.Kept.{Kept, new_agent}
use Rattle.picky_agent_state.specs.Request.{Request, Identities, Sign, Add, Remove, RemoveAll, Lock, Unlock, Unfit}
use Rattle.picky_agent_bytes.specs.Bare.{added, bare, bare_request}
use Rattle.picky_agent_bytes.specs.declared.error.AgentCallError.TheVariants as errors

-- a new agent that keeps the message has the identity alone, or the message locked it
pub kept_alone : (request : Request) (kept : Kept) → kept_with new_agent request ≡ Ok kept → (kept.identities ≡ [] → ⊥)
    → map_ok (λ identity. identity ∷ []) (added request) ≡ Ok kept.identities
kept_alone (Add identity) kept is some =
    let one : record new_agent { identities = identity ∷ [] } ≡ kept = cc is in
    ap (λ (k : Kept). Ok k.identities) one
kept_alone (Lock pass) kept is some =
    let one : record new_agent { pass = Some pass } ≡ kept = cc is in
    absurd (some (ap (λ (k : Kept). k.identities) (sym one)))
kept_alone Identities kept is some = cc is
kept_alone (Sign asked) kept is some = cc is
kept_alone (Remove key) kept is some = cc is
kept_alone RemoveAll kept is some = cc is
kept_alone (Unlock pass) kept is some = cc is
kept_alone Unfit kept is some = cc is

pub kept_none : (request : Request) (kept : Kept) → kept_with new_agent request ≡ Ok kept → kept.identities ≡ []
    → map_ok (λ identity. identity ∷ []) (added request) ≡ Err errors.NotAdd
kept_none (Add identity) kept is none =
    let one : record new_agent { identities = identity ∷ [] } ≡ kept = cc is in
    let other : identity ∷ [] ≡ [] = ap (λ (k : Kept). k.identities) one ∙ none in
    cc other
kept_none (Lock pass) kept is none = refl
kept_none Identities kept is none = cc is
kept_none (Sign asked) kept is none = cc is
kept_none (Remove key) kept is none = cc is
kept_none RemoveAll kept is none = cc is
kept_none (Unlock pass) kept is none = cc is
kept_none Unfit kept is none = cc is

-- what it doesn't keep adds nothing
pub refused_adds_none : (request : Request) (e : KeepError) → kept_with new_agent request ≡ Err e
    → map_ok (λ identity. identity ∷ []) (added request) ≡ Err errors.NotAdd
refused_adds_none (Add identity) e is = cc is
refused_adds_none (Lock pass) e is = refl
refused_adds_none Identities e is = refl
refused_adds_none (Sign asked) e is = refl
refused_adds_none (Remove key) e is = refl
refused_adds_none RemoveAll e is = refl
refused_adds_none (Unlock pass) e is = refl
refused_adds_none Unfit e is = refl

-- ---- the one identity

pub one_added : {E : Type 0} (r : Result Identity E) (identity : Identity) → map_ok (λ i. i ∷ []) r ≡ Ok (identity ∷ [])
    → r ≡ Ok identity
one_added (Ok i) identity is = let same : i ∷ [] ≡ identity ∷ [] = cc is in let one : i ≡ identity = cc same in ap Ok one
one_added (Err e) identity is = cc is

pub some_added : {E : Type 0} (r : Result Identity E) (identities : List Identity) → map_ok (λ i. i ∷ []) r ≡ Ok identities
    → length identities ≡ 1
some_added (Ok i) identities is = let same : i ∷ [] ≡ identities = cc is in ap length (sym same)
some_added (Err e) identities is = cc is

pub none_added : {E : Type 0} (r : Result Identity E) (e : E) → map_ok (λ i. i ∷ []) r ≡ Err e → r ≡ Err e
none_added (Ok i) e is = cc is
none_added (Err f) e is = let same : f ≡ e = cc is in ap Err same

-- it is what the request adds
pub adds_bare : (request : Request) (identity : Identity) → added request ≡ Ok identity → bare_request request ≡ Add (bare identity)
adds_bare (Add i) identity is = let same : i ≡ identity = cc is in ap (λ (x : Identity). Add (bare x)) same
adds_bare (Lock pass) identity is = cc is
adds_bare Identities identity is = cc is
adds_bare (Sign asked) identity is = cc is
adds_bare (Remove key) identity is = cc is
adds_bare RemoveAll identity is = cc is
adds_bare (Unlock pass) identity is = cc is
adds_bare Unfit identity is = cc is
