-- Why a blob is refused: each stop of its readers is one that some bytes have.
use Rattle.std.proofs.Common.{◌≡◌, ℕ, List, [], ◌∷◌, ◌++◌, refl, ap, ◌∙◌, inl, inr, Err}
use Rattle.std.specs.Str.{is_utf8, chars}
use Rattle.picky_wire_base.specs.Flaw.{Reason, Flawed, Short, NotUtf8, Big, Length, Magic, Name, Number}
use Rattle.picky_wire_base.specs.Outcome.{map_err, and_then}
use Rattle.picky_wire_base.specs.Wire.{byte_array, uint32, string, string_of, text}
use Rattle.picky_keys.specs.declared.kind.KeyKind.{KeyKind}
use Rattle.picky_keys.specs.declared.kind.KeyKind.TheVariants as kinds
use Rattle.picky_keys.specs.declared.curve.EdAlgorithm.TheVariants.{Ed25519}
use Rattle.picky_keys.specs.KeyNameTables.{key_types}
use Rattle.picky_keys.specs.KeyNames.{kind_name, curve_key_type, ed_key_type}
use Rattle.picky_keys.specs.carried.KeyNamePieces.{kind_name_spells}
use Rattle.picky_wire.specs.declared.error.WireError.TheVariants as wire
use Rattle.picky_wire.specs.declared.error.IoKind.TheVariants as kinds_io
use Rattle.picky_wire.specs.declared.stop.Stop.{Stop}
use Rattle.picky_wire.specs.declared.stop.Stop.TheVariants as stops
use Rattle.picky_wire.specs.inner.Stop.{stop_of}
use Rattle.picky_wire.specs.Takes.{HasCause, Refuses, causes_of}
use Rattle.picky_wire.proofs.CauseLemmas.{mpint_is_too_long, first_is_too_long}
use Rattle.picky_wire.proofs.StopLemmas.{SaysStops}
use Rattle.picky_keys.specs.declared.error.SshPublicKeyError.TheVariants as errors
use Rattle.picky_keys.specs.FromWire.{public_key_error}
use Rattle.picky_keys.specs.Blob.{blob, key_type, public_key_fields, rsa_fields, ed_fields, ed_key}
use Rattle.picky_keys.specs.BlobRefusal.{read_blob, blob_error, stop_error}

-- the errors of a blob say what its readers stop at
stop_says : (r : Reason) → blob_error r ≡ stop_error (stop_of r)
stop_says (i, Flawed Short) = refl
stop_says (i, Flawed NotUtf8) = refl
stop_says (i, Flawed Big) = refl
stop_says (i, Length) = refl
stop_says (i, Magic) = refl
stop_says (i, Name name) = refl
stop_says (i, Number n) = refl

only_fault : (s : Stop) → stop_error s ≡ public_key_error wire.ReadFault → s ≡ stops.Fault
only_fault stops.Fault is = refl
only_fault stops.NoMemory is = cc is
only_fault stops.Short is = cc is
only_fault stops.NotUtf8 is = cc is
only_fault stops.TooLong is = cc is
only_fault stops.Length is = cc is
only_fault stops.Magic is = cc is
only_fault stops.Name is = cc is
only_fault stops.Number is = cc is

pub says_stops : SaysStops public_key_error stop_error blob_error
says_stops = record {
  reason = stop_says;
  fault = refl;
  no_memory = refl;
  short = refl;
  only_fault = only_fault;
}

-- ---- some bytes are refused with each error

no_blob_is_short : Refuses read_blob (errors.IoError kinds_io.UnexpectedEnd)
unfolding read_blob blob key_type text string uint32 byte_array
no_blob_is_short = ([], refl)

name_is_no_text : Refuses read_blob errors.InvalidUtf8
unfolding read_blob blob key_type text string uint32 byte_array is_utf8 chars
name_is_no_text = (0 ∷ 0 ∷ 0 ∷ 1 ∷ 255 ∷ [], refl)

name_is_empty : Refuses read_blob errors.UnknownKeyType
unfolding read_blob blob key_type text string uint32 byte_array is_utf8 chars key_types kind_name curve_key_type ed_key_type
name_is_empty = (0 ∷ 0 ∷ 0 ∷ 0 ∷ [], refl)

-- after its name a blob is refused as its fields are
after_name : (kind : KeyKind) (rest : List ℕ) (r : Reason) → (public_key_fields kind).read rest ≡ Err r
    → Refuses read_blob (blob_error r)
unfolding read_blob blob key_type
after_name kind rest r refused = (
  string_of (kind_name kind) ++ rest,
  ap (λ found. map_err blob_error (and_then found (λ first. (public_key_fields first.0).read first.1)))
      (key_type.complete kind (string_of (kind_name kind)) rest (kind_name_spells 0 kind))
      ∙ ap (map_err blob_error) refused,
)

key_is_empty : Refuses read_blob errors.KeyError
unfolding ed_fields ed_key string uint32 byte_array
key_is_empty = after_name (kinds.Ed Ed25519) (0 ∷ 0 ∷ 0 ∷ 0 ∷ []) (1, Length) refl

number_is_too_long : Refuses read_blob errors.TooLong
unfolding rsa_fields
number_is_too_long = after_name kinds.Rsa mpint_is_too_long.0 (1, Flawed Big) (first_is_too_long 1 _)

-- Each stop has its cause.
pub stop_has_cause : (s : Stop) (fault : Type 0) → (s ≡ stops.Fault → fault)
    → HasCause (causes_of public_key_error) read_blob fault (stop_error s)
stop_has_cause stops.Fault fault counted = inl (refl, counted refl)
stop_has_cause stops.NoMemory fault counted = inr (inl refl)
stop_has_cause stops.Short fault counted = inr (inr no_blob_is_short)
stop_has_cause stops.NotUtf8 fault counted = inr (inr name_is_no_text)
stop_has_cause stops.TooLong fault counted = inr (inr number_is_too_long)
stop_has_cause stops.Length fault counted = inr (inr key_is_empty)
stop_has_cause stops.Magic fault counted = inr (inr key_is_empty)
stop_has_cause stops.Name fault counted = inr (inr name_is_empty)
stop_has_cause stops.Number fault counted = inr (inr key_is_empty)
