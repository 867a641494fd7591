-- A line of authorized keys: a public line, with options before it or none (sshd(8), "AUTHORIZED_KEYS FILE FORMAT").
use Rattle.std.specs.Prelude.{◌≡◌, ◌⊎◌, ◌==◌, ℕ, Bool, true, false, List, [], ◌∷◌, Option, Some, None, Result, Ok, Err}
use Rattle.std.specs.Prelude.{if◌then◌else◌}
use Rattle.picky_text.specs.Words.{first_word}
use Rattle.picky_keys.specs.Line.{IsPublicLine}
use Rattle.picky_keys.specs.LineRefusal.{is_key_type, line_meaning}
use Rattle.picky_keys.specs.declared.error.SshPublicKeyError.{SshPublicKeyError}
use Rattle.picky_keys.specs.declared.key.SshPublicKey.{SshPublicKey}
use Rattle.picky_authorized.specs.declared.auth_option.AuthOption.{AuthOption}
use Rattle.picky_authorized.specs.declared.entry.AuthContent.{AuthContent}
use Rattle.picky_authorized.specs.declared.entry.AuthContent.TheVariants as contents
use Rattle.picky_authorized.specs.declared.quotes.PartEnd.TheVariants.{Blank}
use Rattle.picky_authorized.specs.KnownOptions.{are_fit}
use Rattle.picky_authorized.specs.Options.{AreOptions, options_in}
use Rattle.picky_authorized.specs.Quotes.{IsFront, ends_at, front_outside, is_blank, rest_outside}

-- without the spaces and tabs in front
abbrev pub without_blanks : List ℕ → List ℕ
without_blanks [] = []
without_blanks (b ∷ bs) = if is_blank b then without_blanks bs else b ∷ bs

-- the line begins with the name of a key type
abbrev pub begins_with_key : (line : List ℕ) → Bool
begins_with_key line = is_key_type (first_word line)

-- ---- what a line says

-- options in front, up to the first space or tab outside quotes, spaces and tabs, and the public line
pub record HasOptions (line : List ℕ) (options : List AuthOption) (key_line : List ℕ) : Type 0 where
  pub front : List ℕ
  pub rest : List ℕ
  pub is_front : IsFront is_blank line front rest
  pub are_options : AreOptions front options
  pub fit : are_fit options ≡ true
  pub behind : key_line ≡ without_blanks rest

-- a line that begins with the name of a key type has no options, and is a public line; any other has some
abbrev pub IsSplit : (line : List ℕ) → List AuthOption → (key_line : List ℕ) → Type 0
IsSplit line options key_line =
    ((begins_with_key line ≡ true) × (options ≡ []) × (key_line ≡ line))
    ⊎ ((begins_with_key line ≡ false) × HasOptions line options key_line)

-- a key with its options; options that don't fit; or the refusal of the public line behind those that do
abbrev pub IsContentSaid : (line : List ℕ) → AuthContent → Type 0
IsContentSaid line (contents.Key options key) = (key_line : List ℕ) × IsSplit line options key_line × IsPublicLine key_line key
IsContentSaid line contents.BadOptions =
    (begins_with_key line ≡ false) × ((options : List AuthOption) (key_line : List ℕ) → HasOptions line options key_line → ⊥)
IsContentSaid line (contents.Unread e) =
    (options : List AuthOption) × (key_line : List ℕ) × IsSplit line options key_line × (line_meaning key_line ≡ Err e)

-- ---- the content of a line

-- a key with these options, or the refusal of its line
abbrev pub key_content : List AuthOption → Result SshPublicKey SshPublicKeyError → AuthContent
key_content options (Ok key) = contents.Key options key
key_content options (Err e) = contents.Unread e

-- options are judged before the public line behind them is read
abbrev pub optioned : (key_line : List ℕ) → Option (List AuthOption) → AuthContent
optioned key_line None = contents.BadOptions
optioned key_line (Some options) =
    if are_fit options then key_content options (line_meaning key_line) else contents.BadOptions

abbrev pub optioned_line : (line : List ℕ) → AuthContent
optioned_line line =
    optioned (without_blanks (rest_outside (ends_at Blank) line)) (options_in (front_outside (ends_at Blank) line))

-- the content of a line that isn't empty and no comment
unfoldable pub content_of : (line : List ℕ) → AuthContent
content_of line = if begins_with_key line then key_content [] (line_meaning line) else optioned_line line

-- an empty line and one that begins with `#` have none
abbrev pub content_in : (line : List ℕ) → Option AuthContent
content_in [] = None
content_in (b ∷ bs) = if b == 35 then None else Some (content_of (b ∷ bs))
