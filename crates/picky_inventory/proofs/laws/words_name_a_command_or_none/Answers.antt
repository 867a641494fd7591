-- By what they name.
use Rattle.std.proofs.Common.{◌≡◌, ◌⊎◌, List, ℕ, Option, None, Some, inl, inr, refl}
use Rattle.picky_inventory.specs.Command.{Names, command_of}
use Rattle.picky_inventory.specs.declared.command.Command.{Command}
use Rattle.picky_inventory.proofs.laws.words_name_a_command_or_none.Goals as goal

named_or_none : (words : List (List ℕ)) (named : Option Command) → command_of words ≡ named
    → ((c : Command) × Names words c) ⊎ ((c : Command) → Names words c → ⊥)
named_or_none words (Some c) is = inl (c, is)
named_or_none words None is = inr (λ c names. cc (is, names))

pub returns : goal.returns
returns c = λ words. named_or_none words (command_of words) refl
