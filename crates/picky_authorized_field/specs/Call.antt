-- A field of authorized keys, or the first reason why they have none.
use Rattle.std.specs.Prelude.{List, ℕ, Result, Ok, Err, codes, if◌then◌else◌, length, slice_get, is_some}
use Rattle.std.specs.Fmt.{decimal}
use Rattle.std.specs.Option.{ok_or}
use Rattle.std.specs.Str.{is_utf8}
use Rattle.picky_wire_base.specs.Outcome.{and_then, map_err}
use Rattle.picky_keys.specs.Blob.{blob_of}
use Rattle.picky_keys.specs.Line.{line_name}
use Rattle.picky_keys.specs.declared.key.SshPublicKey.{SshPublicKey}
use Rattle.picky_authorized.specs.Entries.{keys_in}
use Rattle.picky_authorized.specs.declared.auth_option.AuthOption.{AuthOption}
use Rattle.picky_authorized.specs.declared.entry.AuthContent.{AuthContent}
use Rattle.picky_authorized.specs.declared.entry.AuthContent.TheVariants as contents
use Rattle.picky_authorized.specs.declared.entry.AuthEntry.{AuthEntry}
use Rattle.picky_authorized_field.specs.Key.{key_line}
use Rattle.picky_authorized_field.specs.Layout.{entries_bytes, options_bytes, value_or_none}
use Rattle.picky_authorized_field.specs.Refusal.{refusal_of}
use Rattle.picky_authorized_field.specs.State.{state_name}
use Rattle.picky_authorized_field.specs.declared.error.AuthFieldError.{AuthFieldError}
use Rattle.picky_authorized_field.specs.declared.error.AuthFieldError.TheVariants as errors
use Rattle.picky_authorized_field.specs.declared.field.AuthField.{AuthField}
use Rattle.picky_authorized_field.specs.declared.field.AuthField.TheVariants as fields
use Rattle.picky_authorized_field.specs.declared.field.EntryField.{EntryField}
use Rattle.picky_authorized_field.specs.declared.field.EntryField.TheVariants as entry_fields
use Rattle.picky_authorized_field.specs.declared.field.KeyField.{KeyField}
use Rattle.picky_authorized_field.specs.declared.field.KeyField.TheVariants as key_fields
use Rattle.picky_authorized_field.specs.declared.field.OptionField.{OptionField}
use Rattle.picky_authorized_field.specs.declared.field.OptionField.TheVariants as option_fields

-- ---- of an option

abbrev pub option_field : OptionField → AuthOption → List ℕ
option_field option_fields.OptionName o = o.name
option_field option_fields.OptionValue o = value_or_none o.value
option_field option_fields.OptionHasValue o = if is_some o.value then codes "1" else codes "0"

-- ---- of a key, with the options before it; an option's is that of the one at `item`, counted from 0

abbrev pub key_field : KeyField → (item : ℕ) → List AuthOption → SshPublicKey → Result (List ℕ) AuthFieldError
key_field key_fields.KeyLine item options key = Ok (key_line key)
key_field key_fields.KeyType item options key = Ok (line_name key)
key_field key_fields.KeyBlob item options key = Ok (blob_of key.inner_key)
key_field key_fields.Comment item options key = Ok key.comment
key_field key_fields.Options item options key = Ok (decimal (length options))
key_field key_fields.OptionList item options key = Ok (options_bytes options)
key_field (key_fields.OfOption field) item options key =
    and_then (ok_or (slice_get options item) errors.NoSuchItem) (λ o. Ok (option_field field o))

-- ---- of an entry

abbrev pub content_field : KeyField → (item : ℕ) → AuthContent → Result (List ℕ) AuthFieldError
content_field field item (contents.Key options key) = key_field field item options key
content_field field item contents.BadOptions = Err errors.NoKey
content_field field item (contents.Unread e) = Err errors.NoKey

abbrev pub entry_field : EntryField → (item : ℕ) → AuthEntry → Result (List ℕ) AuthFieldError
entry_field entry_fields.LineNumber item e = Ok (decimal e.line)
entry_field entry_fields.State item e = Ok (state_name e.content)
entry_field (entry_fields.OfKey field) item e = content_field field item e.content

-- ---- of the entries; an entry's is that of the one at `place`, counted from 0

abbrev pub entries_field : AuthField → (place item : ℕ) → List AuthEntry → Result (List ℕ) AuthFieldError
entries_field fields.Entries place item entries = Ok (decimal (length entries))
entries_field fields.AllEntries place item entries = entries_bytes entries
entries_field (fields.OfEntry field) place item entries =
    and_then (ok_or (slice_get entries place) errors.NoSuchPlace) (entry_field field item)

-- ---- the call

-- the entries of a text that is UTF-8
abbrev pub entries_of : (text : List ℕ) → Result (List AuthEntry) AuthFieldError
entries_of text = if is_utf8 text then map_err refusal_of (keys_in text) else Err errors.NotUtf8

abbrev pub field_in : AuthField → (place item : ℕ) → (text : List ℕ) → Result (List ℕ) AuthFieldError
field_in field place item text = and_then (entries_of text) (entries_field field place item)
