-- The options of a line, parted by the commas outside quotes (sshd(8), "AUTHORIZED_KEYS FILE FORMAT").
use Rattle.std.specs.Prelude.{◌≡◌, ℕ, List, [], ◌∷◌, ◌++◌, Option, Some, None}
use Rattle.std.specs.Option.{option_map}
use Rattle.picky_authorized.specs.declared.auth_option.AuthOption.{AuthOption}
use Rattle.picky_authorized.specs.declared.quotes.PartEnd.TheVariants.{Comma}
use Rattle.picky_authorized.specs.OptionText.{IsOptionText, option_in}
use Rattle.picky_authorized.specs.Quotes.{ends_at, parts_outside}

-- options = option *( "," option )
abbrev pub AreOptions : (text : List ℕ) → List AuthOption → Type 0
AreOptions text [] = ⊥
AreOptions text (o ∷ []) = IsOptionText text o
AreOptions text (o ∷ next ∷ more) =
    (front : List ℕ) × (rest : List ℕ) × (text ≡ front ++ 44 ∷ rest) × IsOptionText front o × AreOptions rest (next ∷ more)

-- one option more in front, where there is one, and where the others are some
abbrev pub onto_options : Option AuthOption → Option (List AuthOption) → Option (List AuthOption)
onto_options None os = None
onto_options (Some o) os = option_map (λ more. o ∷ more) os

-- the options of the parts, where each says one
abbrev pub each_option : (parts : List (List ℕ)) → Option (List AuthOption)
each_option [] = Some []
each_option (part ∷ parts) = onto_options (option_in part) (each_option parts)

-- the options that the text says, where all of its parts say one
unfoldable pub options_in : (text : List ℕ) → Option (List AuthOption)
options_in text = each_option (parts_outside (ends_at Comma) text)
