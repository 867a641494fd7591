-- What the laws state.
use Rattle.std.proofs.Common.{◌≡◌, ◌<◌, ◌∙◌, ℕ, List, [], length, refl, sym, ap}
use Rattle.std.specs.Prelude.{Bool, true, false, nat_lt, bytes_eq, if◌then◌else◌, Ok, Err}
use Rattle.std.proofs.lemmas.Slice.Eq.{bytes_eq-Decides}
use Rattle.picky_wire_base.specs.Outcome.{and_then}
use Rattle.picky_wire_base.specs.carried.Outcome.{and_then_ok}
use Rattle.picky_suite.specs.Signs.{SignsAsHanded}
use Rattle.picky_agent_state.specs.Keep.{keep_limit}
use Rattle.picky_agent_state.specs.Kept.{Kept, new_agent}
use Rattle.picky_agent_state.specs.declared.question.Question.{Question}
use Rattle.picky_agent_state.specs.Question.{IsQuestion}
use Rattle.picky_agent_state.specs.Reply.{failure, fitted, signed_reply}
use Rattle.picky_agent_state.specs.Request.{Sign, SignRequest, request_of}
use Rattle.picky_agent_state.specs.Step.{AsksSigner}
use Rattle.picky_agent_bytes.specs.declared.error.AgentBytesError.TheVariants as errors
use Rattle.picky_agent_bytes.specs.Call.{IsReply, handed}
use Rattle.picky_agent_bytes.specs.State.{brought, canonical, state_of, state_read}
use Rattle.picky_agent_bytes.proofs.AlikeLemmas.{reply_alike}
use Rattle.picky_agent_bytes.proofs.HandedLemmas.{no_signature_fails, signature_is_replied}
use Rattle.picky_agent_bytes.proofs.SpelledLemmas.{state_reads_back}

canonical_is : (b : Bool) (bytes : List ℕ) (kept found : Kept) → bytes_eq (state_of found) bytes ≡ b
    → (if b then Ok found else Err errors.NotCanonical) ≡ Ok kept → state_of kept ≡ bytes
canonical_is true bytes kept found same is =
    let one : found ≡ kept = cc is in
    ap state_of (sym one) ∙ (bytes_eq-Decides (state_of found) bytes).0 same
canonical_is false bytes kept found same is = cc is

short_is : (b : Bool) (bytes : List ℕ) (kept : Kept)
    → (if b then Err errors.TooLong else and_then (brought new_agent bytes) (canonical bytes)) ≡ Ok kept → state_of kept ≡ bytes
short_is true bytes kept is = cc is
short_is false bytes kept is =
    let found = and_then_ok (brought new_agent bytes) (canonical bytes) kept is in
    canonical_is (bytes_eq (state_of found.0) bytes) bytes kept found.0 refl found.2

pub read_is_spelled : (bytes : List ℕ) (kept : Kept) → state_read bytes ≡ Ok kept → state_of kept ≡ bytes
read_is_spelled bytes kept is = short_is (nat_lt keep_limit (length bytes)) bytes kept is

pub none_is_new : state_read [] ≡ Ok new_agent
unfolding brought state_of
none_is_new = refl

pub ruleset state_laws = (state_reads_back, read_is_spelled, none_is_new)

pub failed_reply : (kept : Kept) (asked : SignRequest) (message reply : List ℕ) → request_of message ≡ Sign asked
    → IsReply kept message [] reply → reply ≡ failure
failed_reply kept asked message reply is replies = no_signature_fails kept asked message reply replies.new is replies.step

pub signed_by : (kept : Kept) (asked : SignRequest) (question : Question) (message signature reply : List ℕ)
    → request_of message ≡ Sign asked → IsQuestion kept asked question → 0 < length signature → IsReply kept message signature reply
    → reply ≡ fitted (signed_reply question.format signature)
signed_by kept asked question message signature reply request is some replies =
    signature_is_replied kept asked question message signature reply replies.new request is (replies.calm some) replies.step

pub unasked_reply : (kept : Kept) (message signature other reply answer : List ℕ) → (AsksSigner kept (request_of message) → ⊥)
    → IsReply kept message signature reply → IsReply kept message other answer → reply ≡ answer
unasked_reply kept message signature other reply answer never replies replies' =
    reply_alike (SignsAsHanded (handed signature)) (SignsAsHanded (handed other)) kept 0 0 message reply answer replies.new replies'.new
    never replies.step replies'.step
