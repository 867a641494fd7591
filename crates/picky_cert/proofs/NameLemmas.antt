-- A name for which a certificate is refused is text.
use Rattle.std.specs.Prelude.{◌≡◌, Bool, true, false, List, ℕ, length, Option, Some, None, Result, Ok, Err, ◌<◌, ◌^◌, ◌==◌}
use Rattle.std.specs.Prelude.{IfErr}
use Rattle.std.specs.Str.{IsUtf8}
use Rattle.std.proofs.Common.{subst, arith}
use Rattle.picky_wire_base.specs.Flaw.{Flaw, Reason, Why, Flawed, Length, Magic, Name, Number, Short, NotUtf8, Big}
use Rattle.picky_wire_base.specs.{Combine.{at, each, narrow, placed, placed, at}, Entry.{entry}, Grammar.{Grammar}}
use Rattle.picky_wire_base.specs.{Named.{named}, Mpint.{mpint}, Numbers.{byte, uint64}, Table.{find_entry}}
use Rattle.picky_wire_base.specs.{Wire.{of_length, string, text, uint32}, declared.view.Stuck.{Stuck}, View.{SeenAt}}
use Rattle.picky_wire_base.specs.declared.stopped.Stopped.{Stopped}
use Rattle.picky_wire.specs.{Moment.{timestamp_at}, Flaws.{wire_error}}
use Rattle.picky_keys.specs.{KeyNameTables.{key_types}, declared.curve.EcCurve.{EcCurve}}
use Rattle.picky_keys.specs.declared.kind.KeyKind.{KeyKind}
use Rattle.picky_keys.specs.Blob.{blob, ec_fields, ed_fields, ed_key, public_key_fields, key_type, rsa_fields, sk_ecdsa_fields}
use Rattle.picky_keys.specs.Blob.{sk_ed_fields}
use Rattle.picky_keys.specs.declared.kind.KeyKind.TheVariants as kinds
use Rattle.picky_cert_parts.specs.CertNames.{cert_key_type_name, is_sk}
use Rattle.picky_cert_parts.specs.CertNameTables.{cert_key_types, option_types, signature_formats}
use Rattle.picky_cert_parts.specs.declared.cert_key_type.SshCertKeyType.{SshCertKeyType}
use Rattle.picky_cert_parts.specs.ExtensionType.{extension_named}
use Rattle.picky_cert_parts.specs.declared.error.SshCriticalOptionError.{SshCriticalOptionError}
use Rattle.picky_cert_parts.specs.declared.error.SshExtensionError.{SshExtensionError}
use Rattle.picky_cert_parts.specs.declared.error.SshSignatureError.{SshSignatureError}
use Rattle.picky_cert_parts.specs.declared.signature_format.SshSignatureFormat.{SshSignatureFormat}
use Rattle.picky_cert_parts.specs.CertFromWire.{extension_error, option_error, signature_error}
use Rattle.picky_cert_parts.specs.NumberTable.{cert_types}
use Rattle.picky_cert_parts.specs.CriticalOption.{critical_option, option_payload, option_type}
use Rattle.picky_cert_parts.specs.{Extension.{extension, extension_payload, extension_type}, Field.{field}}
use Rattle.picky_cert_parts.specs.Signature.{fields_when, signature, signature_counter, signature_flags, signature_format}
use Rattle.picky_cert_parts.specs.Signature.{signature_payload, signature_total, sk_fields, standard_fields}
use Rattle.picky_cert_parts.specs.declared.error.SshCriticalOptionError.TheVariants as option_errors
use Rattle.picky_cert_parts.specs.declared.error.SshSignatureError.TheVariants as signature_errors
use Rattle.picky_wire_base.specs.declared.view.Stuck.TheVariants as stucks
use Rattle.picky_cert_blob.specs.Items.{extension_item, option_item, principal_item}
use Rattle.picky_cert_blob.specs.Layout.{body, cert_name, critical_options, extensions, grants, head, head_for, head_of, issuer}
use Rattle.picky_cert_blob.specs.Layout.{principals, signature_part, terms, type_number, valid_after, valid_before}
use Rattle.picky_cert_blob.specs.Reason.{CertReason, extension_why, in_key, option_why, signature_why, within}
use Rattle.picky_cert_blob.specs.Subject.{subject_kind}
use Rattle.picky_cert_blob.specs.carried.Items.{extension_item_solid, option_item_solid, principal_item_solid}
use Rattle.picky_cert_blob.specs.declared.part.CertPart.{CertPart}
use Rattle.picky_cert_blob.specs.declared.part.CertPart.TheVariants as parts
use Rattle.picky_cert.specs.{declared.view.CertView.{CertView}, Certificate.{certificate}}
use Rattle.picky_cert.specs.View.{cert_seen, CertLies, IsCertRefusal}
use Rattle.picky_cert_parts.proofs.TypeNameLaws.{cert_key_type_name_utf8}
use Rattle.picky_cert.proofs.RefuseLemmas.{RefusesAs, done_refuses, both_refuses, tag_refuses, flawed_refuses, test_refuses}
use Rattle.picky_cert.proofs.RefuseLemmas.{narrow_refuses, entry_refuses, named_refuses, tagged_is_utf8, list_refuses}
use Rattle.picky_cert.proofs.RefuseLemmas.{front_refuses}

-- the name, where it is for one
abbrev NamesText : Why → Type 0
NamesText (Name name) = IsUtf8 name
NamesText (Flawed flaw) = Unit {0}
NamesText Length = Unit {0}
NamesText Magic = Unit {0}
NamesText (Number n) = Unit {0}

-- so of a field of a blob, and of a part of a certificate
abbrev InBlob : Reason → Type 0
InBlob reason = NamesText reason.1

abbrev InCert : CertReason → Type 0
InCert reason = NamesText reason.1

-- ---- the fields of a public key

at_refuses : {A : Type 0} (i : ℕ) (G : Grammar Flaw A) → RefusesAs InBlob (at i G).read
at_refuses i G = flawed_refuses InBlob (placed i) G (λ flaw. tt)

ed_key_refuses : RefusesAs InBlob (ed_key 1).read
unfolding ed_key
ed_key_refuses =
    narrow_refuses InBlob (at 1 string) (of_length (1, Length) 32) (at_refuses 1 string)
    (λ bytes v rest e was. test_refuses InBlob (length v == 32) v (1, Length) e tt)

rsa_refuses : RefusesAs InBlob rsa_fields.read
unfolding rsa_fields
rsa_refuses =
    both_refuses InBlob (at 1 mpint).read _ (at_refuses 1 mpint) (λ e.
    both_refuses InBlob (at 2 mpint).read _ (at_refuses 2 mpint) (λ n. done_refuses InBlob _))

ec_refuses : (curve : EcCurve) → RefusesAs InBlob (ec_fields curve).read
unfolding ec_fields
ec_refuses curve =
    both_refuses InBlob (at 1 text).read _ (at_refuses 1 text) (λ identifier.
    both_refuses InBlob (at 2 string).read _ (at_refuses 2 string) (λ point. done_refuses InBlob _))

ed_refuses : RefusesAs InBlob ed_fields.read
unfolding ed_fields
ed_refuses = both_refuses InBlob (ed_key 1).read _ ed_key_refuses (λ key. done_refuses InBlob _)

sk_ecdsa_refuses : RefusesAs InBlob sk_ecdsa_fields.read
unfolding sk_ecdsa_fields
sk_ecdsa_refuses =
    both_refuses InBlob (at 1 text).read _ (at_refuses 1 text) (λ identifier.
    both_refuses InBlob (at 2 string).read _ (at_refuses 2 string) (λ point.
    both_refuses InBlob (at 3 text).read _ (at_refuses 3 text) (λ application. done_refuses InBlob _)))

sk_ed_refuses : RefusesAs InBlob sk_ed_fields.read
unfolding sk_ed_fields
sk_ed_refuses =
    both_refuses InBlob (ed_key 1).read _ ed_key_refuses (λ key.
    both_refuses InBlob (at 2 text).read _ (at_refuses 2 text) (λ application. done_refuses InBlob _))

fields_refuse : (kind : KeyKind) → RefusesAs InBlob (public_key_fields kind).read
fields_refuse kinds.Rsa = rsa_refuses
fields_refuse (kinds.Ec curve) = ec_refuses curve
fields_refuse (kinds.Ed algorithm) = ed_refuses
fields_refuse kinds.SkEcdsaSha2NistP256 = sk_ecdsa_refuses
fields_refuse kinds.SkEd25519 = sk_ed_refuses

blob_refuses : RefusesAs InBlob blob.read
unfolding blob key_type
blob_refuses =
    both_refuses InBlob (named 0 key_types).read _
    (named_refuses InBlob (at 0 text) (λ name. (0, Name name)) key_types (at_refuses 0 text)
    (λ bytes name rest is. tagged_is_utf8 (placed 0) bytes name rest is)) fields_refuse

-- ---- the head

the_refuses : {A : Type 0} (part : CertPart) (G : Grammar Flaw A) → RefusesAs InCert (at part G).read
the_refuses part G = flawed_refuses InCert (placed part) G (λ flaw. tt)

within_key_refuses : {A : Type 0} (part : CertPart) (G : Grammar Reason A) → RefusesAs InBlob G.read → RefusesAs InCert (within part G).read
within_key_refuses part G own = tag_refuses InCert (in_key part) G own

cert_name_refuses : RefusesAs InCert cert_name.read
unfolding cert_name
cert_name_refuses =
    named_refuses InCert (at parts.Name text) (λ name. (parts.Name, Name name)) cert_key_types (the_refuses parts.Name text)
    (λ bytes name rest is. tagged_is_utf8 (placed parts.Name) bytes name rest is)

head_for_refuses : (t : SshCertKeyType) (kind : KeyKind) → RefusesAs InCert (head_for t kind).read
unfolding head_for
head_for_refuses t kind =
    both_refuses InCert (at parts.Nonce string).read _ (the_refuses parts.Nonce string) (λ nonce.
    both_refuses InCert (within parts.Subject (public_key_fields kind)).read _
    (within_key_refuses parts.Subject (public_key_fields kind) (fields_refuse kind)) (λ key. done_refuses InCert _))

head_of_refuses : (t : SshCertKeyType) (kind : Option KeyKind) → RefusesAs InCert (head_of t kind).read
head_of_refuses t (Some kind) bytes e is = head_for_refuses t kind bytes e is
head_of_refuses t None bytes e is =
    let same : (parts.Name, Name (cert_key_type_name t)) ≡ e = cc is in
    subst InCert same (cert_key_type_name_utf8 t)

head_refuses : RefusesAs InCert head.read
unfolding head
head_refuses =
    both_refuses InCert cert_name.read _ cert_name_refuses (λ t. head_of_refuses t (subject_kind t))

-- ---- the terms

type_refuses : RefusesAs InCert type_number.read
unfolding type_number
type_refuses =
    narrow_refuses InCert (at parts.CertType uint32) (entry (λ n. (parts.CertType, Number n)) cert_types)
    (the_refuses parts.CertType uint32)
    (λ bytes n rest e was. entry_refuses InCert (find_entry cert_types n) (parts.CertType, Number n) e tt)

after_refuses : RefusesAs InCert valid_after.read
unfolding valid_after
after_refuses = narrow_refuses InCert (at parts.After uint64) (each timestamp_at) (the_refuses parts.After uint64) (λ bytes n rest e was is. cc is)

before_refuses : RefusesAs InCert valid_before.read
unfolding valid_before
before_refuses = narrow_refuses InCert (at parts.Before uint64) (each timestamp_at) (the_refuses parts.Before uint64) (λ bytes n rest e was is. cc is)

principal_refuses : RefusesAs InCert principal_item.read
unfolding principal_item
principal_refuses = the_refuses parts.Principals text

principals_refuse : RefusesAs InCert principals.read
unfolding principals
principals_refuse =
    list_refuses InCert (placed parts.Principals) principal_item principal_item_solid (λ flaw. tt) principal_refuses

terms_refuse : RefusesAs InCert terms.read
unfolding terms
terms_refuse =
    both_refuses InCert (at parts.Serial uint64).read _ (the_refuses parts.Serial uint64) (λ serial.
    both_refuses InCert type_number.read _ type_refuses (λ cert_type.
    both_refuses InCert (at parts.KeyId text).read _ (the_refuses parts.KeyId text) (λ key_id.
    both_refuses InCert principals.read _ principals_refuse (λ names.
    both_refuses InCert valid_after.read _ after_refuses (λ after.
    both_refuses InCert valid_before.read _ before_refuses (λ before. done_refuses InCert _))))))

-- ---- the grants

abbrev InOption : SshCriticalOptionError → Type 0
InOption e = NamesText (option_why e)

option_flaw : (flaw : Flaw) → InOption (option_error (wire_error flaw))
option_flaw Short = tt
option_flaw NotUtf8 = tt
option_flaw Big = tt

option_field_refuses : {A : Type 0} (G : Grammar Flaw A) → RefusesAs InOption (field option_error G).read
option_field_refuses G = flawed_refuses InOption (λ flaw. option_error (wire_error flaw)) G option_flaw

critical_option_refuses : RefusesAs InOption critical_option.read
unfolding critical_option option_type option_payload
critical_option_refuses =
    both_refuses InOption (narrow (field option_error text) (entry option_errors.UnsupportedCriticalOptionType option_types)).read _
    (named_refuses InOption (field option_error text) option_errors.UnsupportedCriticalOptionType option_types
    (option_field_refuses text) (λ bytes name rest is. tagged_is_utf8 (λ flaw. option_error (wire_error flaw)) bytes name rest is))
    (λ name. both_refuses InOption (field option_error string).read _ (option_field_refuses string) (λ payload. done_refuses InOption _))

option_refuses : RefusesAs InCert option_item.read
unfolding option_item
option_refuses = tag_refuses InCert (λ e. (parts.Options, option_why e)) critical_option critical_option_refuses

options_refuse : RefusesAs InCert critical_options.read
unfolding critical_options
options_refuse = list_refuses InCert (placed parts.Options) option_item option_item_solid (λ flaw. tt) option_refuses

abbrev InExtension : SshExtensionError → Type 0
InExtension e = NamesText (extension_why e)

extension_flaw : (flaw : Flaw) → InExtension (extension_error (wire_error flaw))
extension_flaw Short = tt
extension_flaw NotUtf8 = tt
extension_flaw Big = tt

extension_field_refuses : {A : Type 0} (G : Grammar Flaw A) → RefusesAs InExtension (field extension_error G).read
extension_field_refuses G = flawed_refuses InExtension (λ flaw. extension_error (wire_error flaw)) G extension_flaw

one_extension_refuses : RefusesAs InExtension extension.read
unfolding extension extension_type extension_payload
one_extension_refuses =
    both_refuses InExtension (narrow (field extension_error text) (each extension_named)).read _
    (narrow_refuses InExtension (field extension_error text) (each extension_named) (extension_field_refuses text) (λ bytes name rest e was is. cc is))
    (λ name. both_refuses InExtension (field extension_error string).read _ (extension_field_refuses string)
    (λ payload. done_refuses InExtension _))

extension_refuses : RefusesAs InCert extension_item.read
unfolding extension_item
extension_refuses = tag_refuses InCert (λ e. (parts.Extensions, extension_why e)) extension one_extension_refuses

extensions_refuse : RefusesAs InCert extensions.read
unfolding extensions
extensions_refuse =
    list_refuses InCert (placed parts.Extensions) extension_item extension_item_solid (λ flaw. tt) extension_refuses

issuer_refuses : RefusesAs InCert issuer.read
unfolding issuer
issuer_refuses =
    front_refuses InCert (placed parts.IssuerString) (within parts.Issuer blob) (λ flaw. tt)
    (within_key_refuses parts.Issuer blob blob_refuses)

grants_refuse : RefusesAs InCert grants.read
unfolding grants
grants_refuse =
    both_refuses InCert critical_options.read _ options_refuse (λ options.
    both_refuses InCert extensions.read _ extensions_refuse (λ more.
    both_refuses InCert (at parts.Reserved string).read _ (the_refuses parts.Reserved string) (λ reserved.
    both_refuses InCert issuer.read _ issuer_refuses (λ key. done_refuses InCert _))))

-- ---- the signature

abbrev InSignature : SshSignatureError → Type 0
InSignature e = NamesText (signature_why e)

signature_flaw : (flaw : Flaw) → InSignature (signature_error (wire_error flaw))
signature_flaw Short = tt
signature_flaw NotUtf8 = tt
signature_flaw Big = tt

signature_field_refuses : {A : Type 0} (G : Grammar Flaw A) → RefusesAs InSignature (field signature_error G).read
signature_field_refuses G = flawed_refuses InSignature (λ flaw. signature_error (wire_error flaw)) G signature_flaw

format_refuses : RefusesAs InSignature signature_format.read
unfolding signature_format
format_refuses =
    named_refuses InSignature (field signature_error text) signature_errors.UnsupportedSignatureFormat signature_formats
    (signature_field_refuses text) (λ bytes name rest is. tagged_is_utf8 (λ flaw. signature_error (wire_error flaw)) bytes name rest is)

when_refuses : (sk : Bool) (format : SshSignatureFormat) → RefusesAs InSignature (fields_when sk format).read
unfolding sk_fields standard_fields signature_payload signature_flags signature_counter
when_refuses true format =
    both_refuses InSignature (field signature_error string).read _ (signature_field_refuses string) (λ payload.
    both_refuses InSignature (field signature_error byte).read _ (signature_field_refuses byte) (λ flags.
    both_refuses InSignature (field signature_error uint32).read _ (signature_field_refuses uint32) (λ counter. done_refuses InSignature _)))
when_refuses false format =
    both_refuses InSignature (field signature_error string).read _ (signature_field_refuses string) (λ payload. done_refuses InSignature _)

signature_refuses : RefusesAs InSignature signature.read
unfolding signature signature_total
signature_refuses =
    both_refuses InSignature (field signature_error uint32).read _ (signature_field_refuses uint32) (λ total.
    both_refuses InSignature signature_format.read _ format_refuses (λ format. when_refuses (is_sk format) format))

signature_part_refuses : RefusesAs InCert signature_part.read
unfolding signature_part
signature_part_refuses = tag_refuses InCert (λ e. (parts.Signature, signature_why e)) signature signature_refuses

-- ---- the certificate

body_refuses : RefusesAs InCert body.read
unfolding body
body_refuses =
    both_refuses InCert head.read _ head_refuses (λ h.
    both_refuses InCert terms.read _ terms_refuse (λ t.
    both_refuses InCert grants.read _ grants_refuse (λ g. done_refuses InCert _)))

cert_refuses : RefusesAs InCert certificate.read
unfolding certificate
cert_refuses =
    both_refuses InCert body.read _ body_refuses (λ b.
    both_refuses InCert signature_part.read _ signature_part_refuses (λ s. done_refuses InCert _))

refused_is_text : (bytes : List ℕ) (part : CertPart) (stuck : Stuck) → length bytes < 2 ^ 32
    → SeenAt {X = CertView} cert_seen (CertLies bytes) certificate bytes 0 (Err (record { place = part; stuck = stuck }))
    → IsCertRefusal (record { place = part; stuck = stuck })
refused_is_text bytes part (stucks.Name name) short seen = record {
  short = omega (arith, seen.placed.ends, seen.placed.within);
  utf8 = cert_refuses bytes (part, Name name.bytes.now) seen.sees;
}
refused_is_text bytes part stucks.Short short seen = tt
refused_is_text bytes part stucks.NotUtf8 short seen = tt
refused_is_text bytes part stucks.Length short seen = tt
refused_is_text bytes part (stucks.Number n) short seen = tt

-- A name at which a view is stopped is text.
pub seen_is_refusal : (bytes : List ℕ) (r : Result (CertView × ℕ) (Stopped CertPart)) → length bytes < 2 ^ 32
    → SeenAt cert_seen (CertLies bytes) certificate bytes 0 r → IfErr r IsCertRefusal
seen_is_refusal bytes (Ok found) short seen = tt
seen_is_refusal bytes (Err stopped) short seen = refused_is_text bytes stopped.place stopped.stuck short seen
