-- A run of the machine over messages.
use Rattle.std.specs.Prelude.{◌≡◌, List, [], ◌∷◌, ℕ, flat_map}
use Rattle.picky_wire_base.specs.Wire.{string_of}
use Rattle.picky_suite.specs.Signs.{SignRelation}
use Rattle.picky_agent_state.specs.Kept.{Machine}
use Rattle.picky_agent_state.specs.Message.{IsMessage}
use Rattle.picky_agent_state.specs.Step.{Step}

-- a message, and the reply to it
pub record Exchange : Type 0 where
  pub message : List ℕ
  pub reply : List ℕ

abbrev pub IsExchange : Exchange → Type 0
IsExchange exchange = IsMessage exchange.message

-- the machine takes each message in turn and gives its reply
abbrev pub Run : SignRelation → (old : Machine) → List Exchange → (new : Machine) → Type 0
Run signs old [] new = old ≡ new
Run signs old (x ∷ xs) new = (mid : Machine) × Step signs old x.message x.reply mid × Run signs mid xs new

-- the messages and the replies, framed
abbrev pub asked : List Exchange → List ℕ
asked exchanges = flat_map (λ x. string_of x.message) exchanges

abbrev pub answered : List Exchange → List ℕ
answered exchanges = flat_map (λ x. string_of x.reply) exchanges
