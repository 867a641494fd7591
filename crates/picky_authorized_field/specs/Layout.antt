-- Several things at once, as fields of the wire (RFC 4251, section 5).
use Rattle.std.specs.Prelude.{◌^◌, ◌&&◌, List, [], ◌∷◌, ◌++◌, ℕ, Bool, Option, None, Some, Result, Ok, Err}
use Rattle.std.specs.Prelude.{if◌then◌else◌, nat_lt}
use Rattle.std.specs.Int.{w32, to_be_bytes}
use Rattle.std.specs.List.{flat_map, list_all}
use Rattle.picky_wire_base.specs.Wire.{string_of}
use Rattle.picky_keys.specs.Blob.{blob_of}
use Rattle.picky_keys.specs.LineRefusal.{is_short}
use Rattle.picky_authorized.specs.declared.auth_option.AuthOption.{AuthOption}
use Rattle.picky_authorized.specs.declared.entry.AuthContent.{AuthContent}
use Rattle.picky_authorized.specs.declared.entry.AuthContent.TheVariants as contents
use Rattle.picky_authorized.specs.declared.entry.AuthEntry.{AuthEntry}
use Rattle.picky_authorized_field.specs.State.{state_name}
use Rattle.picky_authorized_field.specs.declared.error.AuthFieldError.{AuthFieldError}
use Rattle.picky_authorized_field.specs.declared.error.AuthFieldError.TheVariants as errors

-- ---- options

-- a value; no bytes where there is none
abbrev pub value_or_none : Option (List ℕ) → List ℕ
value_or_none None = []
value_or_none (Some value) = value

-- 1 where there is a value, and else 0
abbrev pub value_flag : Option (List ℕ) → ℕ
value_flag None = 0
value_flag (Some value) = 1

-- string name
-- byte has-value
-- string value
abbrev pub option_bytes : AuthOption → List ℕ
option_bytes o = string_of o.name ++ value_flag o.value ∷ string_of (value_or_none o.value)

-- one after another
abbrev pub options_bytes : List AuthOption → List ℕ
options_bytes options = flat_map option_bytes options

-- ---- entries

-- the blob of an entry's key, and the comment beside it; no bytes where it has no key
abbrev pub blob_in : AuthContent → List ℕ
blob_in (contents.Key options key) = blob_of key.inner_key
blob_in contents.BadOptions = []
blob_in (contents.Unread e) = []

abbrev pub comment_in : AuthContent → List ℕ
comment_in (contents.Key options key) = key.comment
comment_in contents.BadOptions = []
comment_in (contents.Unread e) = []

-- uint32 line
-- string state
-- string blob, of its key
-- string comment
abbrev pub entry_bytes : AuthEntry → List ℕ
entry_bytes e =
    to_be_bytes w32 e.line ++ string_of (state_name e.content) ++ string_of (blob_in e.content) ++ string_of (comment_in e.content)

-- the wire can say the number of its line, and the length of its blob
abbrev pub is_sayable : AuthEntry → Bool
is_sayable e = nat_lt e.line (2 ^ 32) && is_short (blob_in e.content)

-- one after another, where the wire can say each
abbrev pub entries_bytes : List AuthEntry → Result (List ℕ) AuthFieldError
entries_bytes entries = if list_all is_sayable entries then Ok (flat_map entry_bytes entries) else Err errors.TooLong
