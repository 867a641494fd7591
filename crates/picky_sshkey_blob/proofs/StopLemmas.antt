-- Why a private key's blob is refused: each stop of its readers, and each unknown name, is one that some bytes have.
use Rattle.std.specs.Prelude.{Bool, true, false, if◌then◌else◌, ◌==◌, ◌<◌, ◌^◌, None, length, replicate, IsUtf8}
use Rattle.std.proofs.Common.{◌≡◌, ℕ, List, [], ◌∷◌, ◌++◌, refl, ap, ◌∙◌, inl, inr, Err}
use Rattle.std.specs.Str.{is_utf8, chars}
use Rattle.picky_wire_base.specs.Flaw.{Flaw, Reason, Flawed, Short, NotUtf8, Big, Length, Magic, Name, Number}
use Rattle.picky_wire_base.specs.Outcome.{map_err, and_then}
use Rattle.picky_wire_base.specs.Table.{find_entry}
use Rattle.picky_wire_base.specs.Wire.{byte_array, uint32, string, string_of, text}
use Rattle.picky_keys.specs.declared.kind.KeyKind.{KeyKind}
use Rattle.picky_keys.specs.declared.kind.KeyKind.TheVariants as kinds
use Rattle.picky_keys.specs.declared.curve.EdAlgorithm.TheVariants.{Ed25519}
use Rattle.picky_keys.specs.KeyNameTables.{key_types}
use Rattle.picky_keys.specs.KeyNames.{kind_name}
use Rattle.picky_keys.specs.carried.KeyNamePieces.{kind_name_spells}
use Rattle.picky_wire.specs.declared.error.WireError.TheVariants as wire
use Rattle.picky_wire.specs.declared.error.IoKind.TheVariants as io_kinds
use Rattle.picky_wire.specs.declared.stop.Stop.{Stop}
use Rattle.picky_wire.specs.declared.stop.Stop.TheVariants as stops
use Rattle.picky_wire.specs.Takes.{HasCause, Refuses, causes_of}
use Rattle.picky_wire.proofs.CauseLemmas.{mpint_is_too_long, first_is_too_long}
use Rattle.picky_keys.specs.Blob.{key_type, ed_key}
use Rattle.picky_sshkey_blob.specs.declared.error.SshPrivateKeyError.TheVariants as errors
use Rattle.picky_sshkey_blob.specs.FromWire.{private_key_error}
use Rattle.picky_sshkey_blob.specs.Blob.{secret, private_key_fields, private_rsa_fields, private_ed_fields, ed_secret}
use Rattle.picky_sshkey_blob.specs.BlobRefusal.{read_secret, private_error, private_stop_error}
use Rattle.picky_sshkey_blob.specs.inner.Stop.{secret_stop}
use Rattle.picky_sshkey_blob.proofs.RefusedLemmas.{NotName}
use Rattle.picky_sshkey_blob.proofs.NamedLemmas.{SaysStops, name_alone_is_refused}

length_says : (b : Bool) → (if b then errors.InvalidKeyFormat else errors.KeyError)
    ≡ private_stop_error (if b then stops.Magic else stops.Length)
length_says true = refl
length_says false = refl

-- the errors of a blob say what its readers stop at
stop_says : (r : Reason) → NotName r → private_error r ≡ private_stop_error (secret_stop r)
stop_says (i, Flawed Short) is = refl
stop_says (i, Flawed NotUtf8) is = refl
stop_says (i, Flawed Big) is = refl
stop_says (i, Length) is = length_says (i == 2)
stop_says (i, Magic) is = refl
stop_says (i, Name name) is = absurd is
stop_says (i, Number n) is = refl

flaw_says : (i : ℕ) (flaw : Flaw) → private_error (i, Flawed flaw) ≡ private_stop_error (secret_stop (i, Flawed flaw))
flaw_says i Short = refl
flaw_says i NotUtf8 = refl
flaw_says i Big = refl

only_fault : (s : Stop) → private_stop_error s ≡ private_key_error wire.ReadFault → s ≡ stops.Fault
only_fault stops.Fault is = refl
only_fault stops.NoMemory is = cc is
only_fault stops.Short is = cc is
only_fault stops.NotUtf8 is = cc is
only_fault stops.TooLong is = cc is
only_fault stops.Length is = cc is
only_fault stops.Magic is = cc is
only_fault stops.Name is = cc is
only_fault stops.Number is = cc is

pub says_stops : SaysStops private_key_error secret_stop private_stop_error private_error
says_stops = record {
  reason = stop_says;
  flaw = flaw_says;
  fault = refl;
  no_memory = refl;
  short = refl;
  only_fault = only_fault;
}

-- ---- some bytes are refused with each error

no_blob_is_short : Refuses read_secret (errors.IoError io_kinds.UnexpectedEnd)
unfolding read_secret secret key_type text string uint32 byte_array
no_blob_is_short = ([], refl)

name_is_no_text : Refuses read_secret errors.FromUtf8Error
unfolding read_secret secret key_type text string uint32 byte_array is_utf8 chars
name_is_no_text = (0 ∷ 0 ∷ 0 ∷ 1 ∷ 255 ∷ [], refl)

-- after its name a blob is refused as its fields are
after_name : (kind : KeyKind) (rest : List ℕ) (r : Reason) → (private_key_fields kind).read rest ≡ Err r
    → Refuses read_secret (private_error r)
unfolding read_secret secret key_type
after_name kind rest r refused = (
  string_of (kind_name kind) ++ rest,
  ap (λ found. map_err private_error (and_then found (λ first. (private_key_fields first.0).read first.1)))
      (key_type.complete kind (string_of (kind_name kind)) rest (kind_name_spells 0 kind))
      ∙ ap (map_err private_error) refused,
)

public_is_empty : Refuses read_secret errors.KeyError
unfolding private_ed_fields ed_key string uint32 byte_array
public_is_empty = after_name (kinds.Ed Ed25519) (0 ∷ 0 ∷ 0 ∷ 0 ∷ []) (1, Length) refl

secret_is_empty : Refuses read_secret errors.InvalidKeyFormat
unfolding private_ed_fields ed_key ed_secret string uint32 byte_array
secret_is_empty =
    after_name (kinds.Ed Ed25519) (0 ∷ 0 ∷ 0 ∷ 32 ∷ (replicate 32 0 ++ 0 ∷ 0 ∷ 0 ∷ 0 ∷ [])) (2, Length) refl

number_is_too_long : Refuses read_secret errors.TooLong
unfolding private_rsa_fields
number_is_too_long = after_name kinds.Rsa mpint_is_too_long.0 (1, Flawed Big) (first_is_too_long 1 _)

-- Each stop has its cause.
pub stop_has_cause : (s : Stop) (fault : Type 0) → (s ≡ stops.Fault → fault)
    → HasCause (causes_of private_key_error) read_secret fault (private_stop_error s)
stop_has_cause stops.Fault fault counted = inl (refl, counted refl)
stop_has_cause stops.NoMemory fault counted = inr (inl refl)
stop_has_cause stops.Short fault counted = inr (inr no_blob_is_short)
stop_has_cause stops.NotUtf8 fault counted = inr (inr name_is_no_text)
stop_has_cause stops.TooLong fault counted = inr (inr number_is_too_long)
stop_has_cause stops.Length fault counted = inr (inr public_is_empty)
stop_has_cause stops.Magic fault counted = inr (inr secret_is_empty)
stop_has_cause stops.Name fault counted = inr (inr public_is_empty)
stop_has_cause stops.Number fault counted = inr (inr public_is_empty)

-- So has each unknown name.
pub name_has_cause : (name : List ℕ) (fault : Type 0) → length name < 2 ^ 32 → IsUtf8 name
    → find_entry key_types name ≡ None
    → HasCause (causes_of private_key_error) read_secret fault (errors.UnsupportedKeyType name)
unfolding read_secret secret key_type
name_has_cause name fault short utf8 none =
    inr (inr (
      string_of name ++ [],
      ap (map_err private_error) (name_alone_is_refused key_types private_key_fields name short utf8 none),
    ))
