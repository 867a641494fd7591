-- Lemmas on one turn of serving.
use Rattle.std.proofs.Common.{◌≡◌, ◌≢◌, ◌≤◌, ℕ, List, Result, Ok, Err, Some, None, refl, sym, subst, arith, inl, inr}
use Rattle.picky_wire_base.specs.Wire.{string_of}
use Rattle.picky_wire.specs.Puts.{Puts}
use Rattle.picky_suite.specs.Signs.{SignRelation}
use Rattle.picky_agent_state.specs.Kept.{Kept, machine}
use Rattle.picky_agent_state.specs.Request.{request_of}
use Rattle.picky_agent_state.specs.Step.{AsksSigner, Step}
use Rattle.picky_agent.specs.declared.frame.FrameError.{FrameError}
use Rattle.picky_agent.specs.declared.frame.FrameError.TheVariants as errors
use Rattle.picky_agent.specs.declared.status.AgentStatus.{AgentStatus}
use Rattle.picky_agent.specs.declared.status.AgentStatus.TheVariants as statuses
use Rattle.picky_agent.specs.Ending.{HasNoSign}
use Rattle.picky_agent.specs.Frame.{TakesMessage, Walks}
use Rattle.picky_agent.specs.Served.{Counts, Halts, Serves, scene}
use Rattle.picky_agent.specs.inner.Turn.{frame_status, taken_in}
use Rattle.picky_agent.proofs.EndingLaws.{no_sign_behind, other_asks_none}
use Rattle.picky_agent.proofs.FrameLemmas.{ends_here}
use Rattle.picky_agent.proofs.ServedLemmas.{serves_broken, serves_one, serves_stop}

-- ---- nothing was put

-- what was taken, if anything, has no reply
stops : {I A : Type 0} (signs : SignRelation) (tells : I → Type 0) (left : I → List ℕ) (faults : I → ℕ) (tells_out : Type 0)
    (status : AgentStatus) (r : Result A FrameError) (kept kept' : Kept) (n n' : ℕ) (source source' : I) (written : List ℕ)
    (sink_faults : ℕ)
    → status ≢ statuses.WriteFault → kept' ≡ kept → n ≤ n' → (status ≢ statuses.NoMemory → n' ≡ n)
    → Walks tells left faults r source source'
    → (tells source → Halts (Err status) (left source) (left source'))
    → Counts (Err status) (scene kept n (left source) (faults source) written sink_faults)
    (scene kept' n' (left source') (faults source') written sink_faults)
    → Serves signs (tells source) tells_out (Err status) 0 (scene kept n (left source) (faults source) written sink_faults)
    (scene kept' n' (left source') (faults source') written sink_faults)
stops signs tells left faults tells_out status r kept kept' n n' source source' written sink_faults other same rises calm walks
    halts counts =
    serves_stop signs (tells source) tells_out status _ _ other same rises calm
    (λ told. walks.front told (left source) (ends_here (left source))) halts refl counts

-- a message was taken, and there was no memory for its reply
pub serves_unanswered : {I : Type 0} (signs : SignRelation) (tells : I → Type 0) (left : I → List ℕ) (faults : I → ℕ) (tells_out : Type 0)
    (message : List ℕ) (kept kept' : Kept) (n n' : ℕ) (source source' : I) (written : List ℕ) (sink_faults : ℕ)
    → TakesMessage tells left faults (Ok (Some message)) source source' → kept' ≡ kept → n ≤ n'
    → Serves signs (tells source) tells_out (Err statuses.NoMemory) 0 (scene kept n (left source) (faults source) written sink_faults)
    (scene kept' n' (left source') (faults source') written sink_faults)
serves_unanswered signs tells left faults tells_out message kept kept' n n' source source' written sink_faults takes same rises =
    stops signs tells left faults tells_out statuses.NoMemory _ kept kept' n n' source source' written sink_faults
    (λ other. cc other) same rises (λ other. absurd (other refl)) takes.walks
    (λ told. inr (record { message = message; is_message = takes.is_message; are = takes.fronts told })) (takes.walks.calm, refl)

-- the stream ended
pub serves_end : {I : Type 0} (signs : SignRelation) (tells : I → Type 0) (left : I → List ℕ) (faults : I → ℕ) (tells_out : Type 0)
    (kept : Kept) (n : ℕ) (source source' : I) (written : List ℕ) (sink_faults : ℕ)
    → TakesMessage tells left faults (Ok None) source source'
    → Serves signs (tells source) tells_out (Err statuses.Done) 0 (scene kept n (left source) (faults source) written sink_faults)
    (scene kept n (left source') (faults source') written sink_faults)
serves_end signs tells left faults tells_out kept n source source' written sink_faults takes =
    stops signs tells left faults tells_out statuses.Done _ kept kept n n source source' written sink_faults
    (λ other. cc other) refl (omega arith) (λ remembers. refl) takes.walks takes.fronts (takes.walks.calm, refl)

-- no message was taken
pub serves_refused : {I : Type 0} (signs : SignRelation) (tells : I → Type 0) (left : I → List ℕ) (faults : I → ℕ) (tells_out : Type 0)
    (e : FrameError) (kept : Kept) (n : ℕ) (source source' : I) (written : List ℕ) (sink_faults : ℕ)
    → TakesMessage tells left faults (Err e) source source'
    → Serves signs (tells source) tells_out (Err (frame_status e)) (taken_in (Err (frame_status e)))
    (scene kept n (left source) (faults source) written sink_faults) (scene kept n (left source') (faults source') written sink_faults)
serves_refused signs tells left faults tells_out errors.BadFrame kept n source source' written sink_faults takes =
    stops signs tells left faults tells_out statuses.BadFrame _ kept kept n n source source' written sink_faults
    (λ other. cc other) refl (omega arith) (λ remembers. refl) takes.walks takes.fronts (takes.walks.calm (λ other. cc other), refl)
serves_refused signs tells left faults tells_out errors.Cut kept n source source' written sink_faults takes =
    stops signs tells left faults tells_out statuses.Cut _ kept kept n n source source' written sink_faults
    (λ other. cc other) refl (omega arith) (λ remembers. refl) takes.walks takes.fronts (takes.walks.calm (λ other. cc other), refl)
serves_refused signs tells left faults tells_out errors.ReadFault kept n source source' written sink_faults takes =
    stops signs tells left faults tells_out statuses.ReadFault _ kept kept n n source source' written sink_faults
    (λ other. cc other) refl (omega arith) (λ remembers. refl) takes.walks takes.fronts (takes.walks.fault refl, refl)
serves_refused signs tells left faults tells_out errors.NoMemory kept n source source' written sink_faults takes =
    stops signs tells left faults tells_out statuses.NoMemory _ kept kept n n source source' written sink_faults
    (λ other. cc other) refl (omega arith) (λ remembers. refl) takes.walks (λ told. inl (takes.fronts told))
    (takes.walks.calm (λ other. cc other), refl)

-- ---- a message was taken, and its reply was put

pub serves_put : {I O : Type 0} (signs : SignRelation) (tells : I → Type 0) (left : I → List ℕ) (faults : I → ℕ)
    (tells_out : O → Type 0) (written : O → List ℕ) (faults_out : O → ℕ) (message reply : List ℕ) (r : Result (Unit {0}) AgentStatus)
    (kept kept' : Kept) (n n' : ℕ) (source source' : I) (out out' : O)
    → TakesMessage tells left faults (Ok (Some message)) source source' → Step signs (machine kept n) message reply (machine kept' n')
    → Puts tells_out written faults_out statuses.WriteFault (string_of reply) r out out'
    → Serves signs (tells source) (tells_out out) r (taken_in r)
    (scene kept n (left source) (faults source) (written out) (faults_out out))
    (scene kept' n' (left source') (faults source') (written out') (faults_out out'))
serves_put signs tells left faults tells_out written faults_out message reply (Ok done) kept kept' n n' source source' out out'
    takes step puts =
    serves_one signs (tells source) (tells_out out) message reply _ _ takes.is_message step takes.fronts puts.writes
    (takes.walks.calm, puts.calm)
serves_put signs tells left faults tells_out written faults_out message reply (Err e) kept kept' n n' source source' out out'
    takes step puts =
    let before = scene kept n (left source) (faults source) (written out) (faults_out out) in
    let after = scene kept' n' (left source') (faults source') (written out') (faults_out out') in
    subst (λ (s : AgentStatus). Serves signs (tells source) (tells_out out) (Err s) (taken_in (Err s)) before after) (sym puts.cause.0)
    (serves_broken signs (tells source) (tells_out out) message reply before after takes.is_message step takes.fronts puts.writes
    (takes.walks.calm, puts.cause.1))

-- ---- a turn over a stream that asks for no signature

-- the message asks no signer
pub turn_asks_none : {I : Type 0} (tells : I → Type 0) (left : I → List ℕ) (faults : I → ℕ) (message seen : List ℕ) (kept : Kept)
    (source source' : I) → TakesMessage tells left faults (Ok (Some message)) source source' → seen ≡ message
    → tells source → HasNoSign (left source) → AsksSigner kept (request_of seen) → ⊥
turn_asks_none tells left faults message seen kept source source' takes is told none asks =
    other_asks_none kept (request_of message)
    (no_sign_behind (left source) message (left source') takes.is_message (takes.fronts told) none).0
    (subst (λ (m : List ℕ). AsksSigner kept (request_of m)) is asks)

-- nor do those behind it
pub turn_goes_on : {I : Type 0} (tells : I → Type 0) (left : I → List ℕ) (faults : I → ℕ) (message : List ℕ) (source source' : I)
    → TakesMessage tells left faults (Ok (Some message)) source source' → tells source → HasNoSign (left source)
    → HasNoSign (left source')
turn_goes_on tells left faults message source source' takes told none =
    (no_sign_behind (left source) message (left source') takes.is_message (takes.fronts told) none).1
