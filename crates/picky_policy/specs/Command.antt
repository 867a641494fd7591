-- What the words of a command line ask for.
use Rattle.std.specs.Prelude.{◌≡◌, ℕ, List, [], ◌∷◌, Option, Some, None, bytes_eq, codes, if◌then◌else◌}
use Rattle.std.specs.Option.{option_map}
use Rattle.picky_wire.specs.Moment.{timestamp_at}
use Rattle.picky_wire.specs.declared.timestamp.Timestamp.{Timestamp}
use Rattle.picky_issuing.specs.Value.{number_named}
use Rattle.picky_policy.specs.declared.command.Command.{Command}
use Rattle.picky_policy.specs.declared.command.Command.TheVariants as commands

-- to decide whether a user gets in at a moment, or what is signed of the offer
pub data Asked : Type 0 where
  Deciding : (user : List ℕ) → (moment : Timestamp) → Asked
  Printing : Asked

-- what a command of the code asks for
abbrev pub asked_by : Command → Asked
asked_by (commands.Deciding user moment) = Deciding user.now moment
asked_by commands.Printing = Printing

unfoldable pub decide_word : List ℕ
decide_word = codes "decide"

unfoldable pub message_word : List ℕ
message_word = codes "message"

abbrev pub printing : (word : List ℕ) → Option Asked
printing word = if bytes_eq word message_word then Some Printing else None

-- the moment is a number below 2^64, in decimal
abbrev pub deciding : (word user number : List ℕ) → Option Asked
deciding word user number =
    if bytes_eq word decide_word then option_map (λ secs. Deciding user (timestamp_at secs)) (number_named number) else None

-- decide USER MOMENT, or message
abbrev pub asked_for : (words : List (List ℕ)) → Option Asked
asked_for [] = None
asked_for (word ∷ []) = printing word
asked_for (word ∷ user ∷ []) = None
asked_for (word ∷ user ∷ number ∷ []) = deciding word user number
asked_for (word ∷ user ∷ number ∷ next ∷ more) = None

abbrev pub Names : (words : List (List ℕ)) → Asked → Type 0
Names words asked = asked_for words ≡ Some asked
