-- The laws of the machine.
use Rattle.std.proofs.Common.{inl, inr}
use Rattle.std.specs.Prelude.{◌⊎◌, ℕ, List, Bool, true, false, MatchBool, Option, Some, None}
use Rattle.picky_keys.specs.declared.public_key.PublicKey.{PublicKey}
use Rattle.picky_keys.specs.declared.algorithm.SignatureAlgorithm.{SignatureAlgorithm}
use Rattle.picky_suite.specs.Signs.{SignRelation}
use Rattle.picky_keys.specs.Key.{kind_of}
use Rattle.picky_agent_state.specs.Kept.{Machine, is_locked}
use Rattle.picky_agent_state.specs.Request.{Request, SignRequest, Identities, Sign, Add, Remove, RemoveAll, Lock, Unlock, Unfit, request_of}
use Rattle.picky_agent_state.specs.Signing.{SigningWay, way_for}
use Rattle.picky_agent_state.specs.Step.{Asks, AsksNone, AsksWith, Step, StepOn}

-- what is good by the first is good by the second
abbrev pub Under : SignRelation → SignRelation → Type 0
Under few many = (k : PublicKey) (a : SignatureAlgorithm) (m s : List ℕ) → few k a m s → many k a m s

asks_under : (few many : SignRelation) → Under few many → (old : Machine) (asked : SignRequest) (way : Option SigningWay) (reply : List ℕ)
    (new : Machine) → Asks few old asked way reply new → Asks many old asked way reply new
asks_under few many under old asked (Some way) reply new (inl signed) = inl (record {
  signature = signed.signature;
  good = under _ _ _ _ signed.good;
  replies = signed.replies;
  unchanged = signed.unchanged;
})
asks_under few many under old asked (Some way) reply new (inr unsigned) = inr unsigned
asks_under few many under old asked None reply new fails = fails

unlocked_under : (few many : SignRelation) → Under few many → (old : Machine) (asked : SignRequest) (reply : List ℕ) (new : Machine)
    → AsksWith few old asked reply new ⊎ AsksNone old asked reply new
    → AsksWith many old asked reply new ⊎ AsksNone old asked reply new
unlocked_under few many under old asked reply new (inl asks) = inl (record {
  place = asks.place;
  is_at = asks.is_at;
  asks = asks_under few many under old asked (way_for (kind_of asked.key) asked.flags) reply new asks.asks;
})
unlocked_under few many under old asked reply new (inr none) = inr none

either_under : (b : Bool) (P Q R : Type 0) → (Q → R) → MatchBool b P Q → MatchBool b P R
either_under true P Q R next here = here
either_under false P Q R next here = next here

step_on_under : (few many : SignRelation) → Under few many → (old : Machine) (request : Request) (reply : List ℕ) (new : Machine)
    → StepOn few old request reply new → StepOn many old request reply new
step_on_under few many under old Identities reply new step = step
step_on_under few many under old (Sign asked) reply new step =
    either_under (is_locked old.kept) _ _ _ (unlocked_under few many under old asked reply new) step
step_on_under few many under old (Add added) reply new step = step
step_on_under few many under old (Remove key) reply new step = step
step_on_under few many under old RemoveAll reply new step = step
step_on_under few many under old (Lock pass) reply new step = step
step_on_under few many under old (Unlock pass) reply new step = step
step_on_under few many under old Unfit reply new step = step

-- a step by few signatures is one by more
pub step_under : (few many : SignRelation) → Under few many → (old : Machine) (message reply : List ℕ) (new : Machine)
    → Step few old message reply new → Step many old message reply new
unfolding Step
step_under few many under old message reply new step =
    step_on_under few many under old (request_of message) reply new step
