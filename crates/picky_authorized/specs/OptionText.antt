-- One option of a line: NAME or NAME="TEXT" (sshd(8), "AUTHORIZED_KEYS FILE FORMAT").
use Rattle.std.specs.Prelude.{◌≡◌, ◌≢◌, ◌-◌, ◌<◌, ◌==◌, ◌||◌, ◌&&◌, ℕ, Bool, true, List, [], ◌∷◌, ◌++◌, length, map}
use Rattle.std.specs.Prelude.{slice_index}
use Rattle.std.specs.Prelude.{Option, Some, None, not, if◌then◌else◌}
use Rattle.std.specs.Char.{is_ascii_alphanumeric, to_ascii_lowercase}
use Rattle.std.specs.List.{AllByRecursion, after_first, before_first, list_all, list_any}
use Rattle.std.specs.Option.{option_map}
use Rattle.picky_authorized.specs.declared.auth_option.AuthOption.{AuthOption}

-- ---- what an option's text says

-- a letter, a digit or a dash
abbrev pub is_name_byte : ℕ → Bool
is_name_byte b = is_ascii_alphanumeric b || b == 45

-- a backslash stands before each quote of the text
abbrev pub escaped : List ℕ → List ℕ
escaped [] = []
escaped (b ∷ bs) = if b == 34 then 92 ∷ 34 ∷ escaped bs else b ∷ escaped bs

-- ="TEXT", where there is a value
abbrev pub value_spelled : Option (List ℕ) → List ℕ
value_spelled None = []
value_spelled (Some value) = 61 ∷ 34 ∷ (escaped value ++ 34 ∷ [])

-- the value doesn't end in a backslash, which would keep the quote behind it from closing
abbrev pub IsClosed : Option (List ℕ) → Type 0
IsClosed None = Unit {0}
IsClosed (Some value) = slice_index value (length value - 1) ≢ 92

-- NAME or NAME="TEXT", whose name is kept in lower case
pub record IsOptionText (text : List ℕ) (o : AuthOption) : Type 0 where
  pub name : List ℕ
  pub some : 0 < length name
  pub letters : AllByRecursion (λ b. is_name_byte b ≡ true) name
  pub lower : o.name ≡ map to_ascii_lowercase name
  pub spelled : text ≡ name ++ value_spelled o.value
  pub closed : IsClosed o.value

-- ---- the option of a text

-- the bytes are a name
abbrev pub is_name : List ℕ → Bool
is_name bytes = not (length bytes == 0) && list_all is_name_byte bytes

-- an equals sign
abbrev pub is_equals : ℕ → Bool
is_equals b = b == 61

-- the value whose quotes have backslashes before them, up to the one quote without, which ends the text
unfoldable pub escaped_value : List ℕ → Option (List ℕ)
escaped_value [] = None
escaped_value (b ∷ []) = if b == 34 then Some [] else None
escaped_value (b ∷ c ∷ bs) =
    if b == 92 && c == 34 then option_map (λ value. 34 ∷ value) (escaped_value bs)
    else if b == 34 then None else option_map (λ value. b ∷ value) (escaped_value (c ∷ bs))

-- the same behind the quote that opens it
abbrev pub quoted_text_in : List ℕ → Option (List ℕ)
quoted_text_in [] = None
quoted_text_in (b ∷ bs) = if b == 34 then escaped_value bs else None

-- an option of this name
abbrev pub auth_option_named : (name : List ℕ) → Option (List ℕ) → AuthOption
auth_option_named name value = record { name = map to_ascii_lowercase name; value = value }

-- the value behind the first equals sign, and no value where none stands
abbrev pub value_in : (text : List ℕ) → Option (Option (List ℕ))
value_in text =
    if list_any is_equals text then option_map Some (quoted_text_in (after_first is_equals text)) else Some None

-- the option that the text says, where it says one
unfoldable pub option_in : (text : List ℕ) → Option AuthOption
option_in text =
    if is_name (before_first is_equals text)
    then option_map (auth_option_named (before_first is_equals text)) (value_in text)
    else None
