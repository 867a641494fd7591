-- What the words of a command line name.
use Rattle.std.specs.Prelude.{◌≡◌, ℕ, List, [], ◌∷◌, Option, Some, None, codes, if◌then◌else◌}
use Rattle.std.specs.Str.{bytes_eq}
use Rattle.picky_inventory.specs.declared.command.Command.{Command}
use Rattle.picky_inventory.specs.declared.command.Command.TheVariants as commands

unfoldable pub list_word : List ℕ
list_word = codes "list"

unfoldable pub merge_word : List ℕ
merge_word = codes "merge"

abbrev pub command_of_word : List ℕ → Option Command
command_of_word word =
    if bytes_eq word list_word then Some commands.Listing
    else if bytes_eq word merge_word then Some commands.Merging
    else None

-- the command of a command line is one word alone
abbrev pub command_of : List (List ℕ) → Option Command
command_of [] = None
command_of (word ∷ []) = command_of_word word
command_of (word ∷ next ∷ more) = None

abbrev pub Names : List (List ℕ) → Command → Type 0
Names words command = command_of words ≡ Some command
