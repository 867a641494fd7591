-- A certificate's bytes before its signature (OpenSSH's PROTOCOL.certkeys).
use Rattle.std.specs.Prelude.{List, ℕ, Option, Some, None}
use Rattle.picky_wire_base.specs.Flaw.{Name, Number}
use Rattle.picky_wire_base.specs.Grammar.{Grammar}
use Rattle.picky_wire_base.specs.Combine.{narrow, each, done, ◌>>=◌}
use Rattle.picky_wire_base.specs.Entry.{entry}
use Rattle.picky_wire_base.specs.Numbers.{uint64}
use Rattle.picky_wire_base.specs.Wire.{string, text, uint32}
use Rattle.picky_wire.specs.declared.timestamp.Timestamp.{Timestamp}
use Rattle.picky_wire.specs.Moment.{timestamp_at}
use Rattle.picky_keys.specs.declared.kind.KeyKind.{KeyKind}
use Rattle.picky_keys.specs.declared.key.SshBasePublicKey.{SshBasePublicKey}
use Rattle.picky_keys.specs.Blob.{blob, public_key_fields}
use Rattle.picky_cert_parts.specs.declared.cert_key_type.SshCertKeyType.{SshCertKeyType}
use Rattle.picky_cert_parts.specs.declared.cert_type.SshCertType.{SshCertType}
use Rattle.picky_cert_parts.specs.declared.critical_option.SshCriticalOption.{SshCriticalOption}
use Rattle.picky_cert_parts.specs.declared.extension.SshExtension.{SshExtension}
use Rattle.picky_cert_parts.specs.CertNames.{cert_key_type_name}
use Rattle.picky_cert_parts.specs.CertNameTables.{cert_key_types}
use Rattle.picky_cert_parts.specs.NumberTable.{cert_types}
use Rattle.picky_cert_blob.specs.declared.part.CertPart.TheVariants as parts
use Rattle.picky_cert_parts.specs.declared.signature.SshSignature.{SshSignature}
use Rattle.picky_cert_parts.specs.Signature.{signature}
use Rattle.picky_wire_base.specs.Combine.{placed, at}
use Rattle.picky_cert_blob.specs.Reason.{CertReason, in_signature, within}
use Rattle.picky_cert_blob.specs.Subject.{subject_kind}
use Rattle.picky_cert_blob.specs.Listed.{enclosed, listed, refuses_all_bytes}
use Rattle.picky_cert_blob.specs.Items.{principal_item, option_item, extension_item}
use Rattle.picky_cert_blob.specs.carried.Items.{principal_item_solid, option_item_solid, extension_item_solid}

-- ---- who is certified

pub record Head : Type 0 where
  pub cert_key_type : SshCertKeyType
  pub nonce : List ℕ
  pub key : SshBasePublicKey

-- string name, of a type of certificates
unfoldable pub cert_name : Grammar CertReason SshCertKeyType
cert_name = narrow (at parts.Name text) (entry (λ name. (parts.Name, Name name)) cert_key_types)

-- string nonce
-- the fields of the subject's blob after its name
unfoldable pub head_for : SshCertKeyType → KeyKind → Grammar CertReason Head
head_for t kind = do
  nonce ← at parts.Nonce string
  key ← within parts.Subject (public_key_fields kind)
  done (record { cert_key_type = t; nonce = nonce; key = key })

-- a type that is for no kind of keys is refused with its name
abbrev pub head_of : SshCertKeyType → Option KeyKind → Grammar CertReason Head
head_of t (Some kind) = head_for t kind
head_of t None = refuses_all_bytes (parts.Name, Name (cert_key_type_name t))

unfoldable pub head : Grammar CertReason Head
head = do
  t ← cert_name
  head_of t (subject_kind t)

-- ---- for what and how long

pub record Terms : Type 0 where
  pub serial : ℕ
  pub cert_type : SshCertType
  pub key_id : List ℕ
  pub principals : List (List ℕ)
  pub after : Timestamp
  pub before : Timestamp

-- uint32 type, 1 or 2
unfoldable pub type_number : Grammar CertReason SshCertType
type_number = narrow (at parts.CertType uint32) (entry (λ n. (parts.CertType, Number n)) cert_types)

-- string valid principals: strings, which are text
unfoldable pub principals : Grammar CertReason (List (List ℕ))
principals = listed (placed parts.Principals) principal_item principal_item_solid

-- uint64 of seconds
unfoldable pub valid_after : Grammar CertReason Timestamp
valid_after = narrow (at parts.After uint64) (each timestamp_at)

unfoldable pub valid_before : Grammar CertReason Timestamp
valid_before = narrow (at parts.Before uint64) (each timestamp_at)

-- uint64 serial
-- uint32 type
-- string key id, which is text
-- string valid principals
-- uint64 valid after
-- uint64 valid before
unfoldable pub terms : Grammar CertReason Terms
terms = do
  serial ← at parts.Serial uint64
  cert_type ← type_number
  key_id ← at parts.KeyId text
  names ← principals
  after ← valid_after
  before ← valid_before
  done (record { serial = serial; cert_type = cert_type; key_id = key_id; principals = names; after = after; before = before })

-- ---- what is granted, and by whom

pub record Grants : Type 0 where
  pub options : List SshCriticalOption
  pub extensions : List SshExtension
  pub issuer : SshBasePublicKey

-- string critical options: each a name and its data
unfoldable pub critical_options : Grammar CertReason (List SshCriticalOption)
critical_options = listed (placed parts.Options) option_item option_item_solid

-- string extensions: each a name and its data
unfoldable pub extensions : Grammar CertReason (List SshExtension)
extensions = listed (placed parts.Extensions) extension_item extension_item_solid

-- string signature key: a public key's blob
unfoldable pub issuer : Grammar CertReason SshBasePublicKey
issuer = enclosed (placed parts.IssuerString) (within parts.Issuer blob)

-- string critical options
-- string extensions
-- string reserved, which says nothing
-- string signature key
unfoldable pub grants : Grammar CertReason Grants
grants = do
  options ← critical_options
  more ← extensions
  reserved ← at parts.Reserved string
  key ← issuer
  done (record { options = options; extensions = more; issuer = key })

-- ---- all before the signature

pub record Body : Type 0 where
  pub head : Head
  pub terms : Terms
  pub grants : Grants

unfoldable pub body : Grammar CertReason Body
body = do
  h ← head
  t ← terms
  g ← grants
  done (record { head = h; terms = t; grants = g })

-- ---- the signature

-- uint32 length, string format, string blob; of a security key byte flags and uint32 counter
unfoldable pub signature_part : Grammar CertReason SshSignature
signature_part = in_signature signature
