-- A certificate's line is refused with its own errors alone: for no fault of a source, and never for want of memory.
use Rattle.std.specs.Prelude.{◌≡◌, ◌≢◌, ◌^◌, ◌&&◌, Bool, true, false, List, ℕ, Option, Some, None, Result, Ok, Err}
use Rattle.std.specs.Prelude.{if◌then◌else◌, bytes_eq, length, nat_lt}
use Rattle.std.specs.Option.{ok_or}
use Rattle.std.specs.Str.{is_utf8}
use Rattle.std.proofs.Common.{refl, sym, subst}
use Rattle.picky_wire_base.specs.Flaw.{Why, Flawed, Length, Magic, Name, Number, Short, NotUtf8, Big}
use Rattle.picky_wire_base.specs.Front.{read_front}
use Rattle.picky_wire_base.specs.Outcome.{and_then, map_err}
use Rattle.picky_wire_base.specs.Table.{find_entry}
use Rattle.picky_text.specs.Base64.{decoded}
use Rattle.picky_text.specs.Words.{first_word, body_word}
use Rattle.picky_wire.specs.declared.error.WireError.TheVariants as wire
use Rattle.picky_keys.specs.LineRefusal.{comment_text, is_short, is_short_text}
use Rattle.picky_cert_parts.specs.declared.cert_key_type.SshCertKeyType.{SshCertKeyType}
use Rattle.picky_cert_parts.specs.declared.cert_key_type.SshCertKeyType.TheVariants as key_types
use Rattle.picky_cert_parts.specs.declared.error.SshCertificateError.{SshCertificateError}
use Rattle.picky_cert_parts.specs.declared.error.SshCertificateError.TheVariants as errors
use Rattle.picky_cert_parts.specs.CertFromWire.{certificate_error}
use Rattle.picky_cert_parts.specs.CertNamed.{entry_or}
use Rattle.picky_cert_parts.specs.CertNames.{cert_key_type_name}
use Rattle.picky_cert_parts.specs.CertNameTables.{cert_key_types}
use Rattle.picky_cert_blob.specs.Reason.{CertReason}
use Rattle.picky_cert_blob.specs.declared.part.CertPart.TheVariants as parts
use Rattle.picky_cert.specs.Certificate.{certificate}
use Rattle.picky_cert.specs.CertRefusal.{cert_error, extensions_error, issuer_error, name_error, options_error, own_error}
use Rattle.picky_cert.specs.CertRefusal.{signature_part_error, type_error}
use Rattle.picky_cert.specs.LineRefusal.{blob_certificate, body_certificate, cert_line_meaning, word_type}
use Rattle.picky_cert.specs.LineRefusal.{cert_words_meaning}
use Rattle.picky_cert.specs.Want.{IsReadFault, WantsMemory}

-- the error is the bytes' own
pub record IsErrorOfCertificate (e : SshCertificateError) : Type 0 where
  pub no_fault : IsReadFault e → ⊥
  pub no_want : WantsMemory e → ⊥

pub own_is_no_fault : (e : SshCertificateError) → IsErrorOfCertificate e → e ≢ certificate_error wire.ReadFault
own_is_no_fault e own is = own.no_fault (subst IsReadFault (sym is) refl)

-- ---- parts

either_own : (b : Bool) (d e : SshCertificateError) → IsErrorOfCertificate d → IsErrorOfCertificate e
    → IsErrorOfCertificate (if b then d else e)
either_own true d e first second = first
either_own false d e first second = second

name_own : (name : List ℕ) → IsErrorOfCertificate (name_error name)
name_own name =
    either_own (bytes_eq name (cert_key_type_name key_types.SshDssV01)) (errors.UnsupportedCertificateType name)
    (errors.InvalidCertificateKeyType name) (record { no_fault = λ is. cc is; no_want = λ is. cc is })
    (record { no_fault = λ is. cc is; no_want = λ is. cc is })

own_own : (why : Why) → IsErrorOfCertificate (own_error why)
own_own (Flawed Short) = record { no_fault = λ is. cc is; no_want = λ is. cc is }
own_own (Flawed NotUtf8) = record { no_fault = λ is. cc is; no_want = λ is. cc is }
own_own (Flawed Big) = record { no_fault = λ is. cc is; no_want = λ is. cc is }
own_own Length = record { no_fault = λ is. cc is; no_want = λ is. cc is }
own_own Magic = record { no_fault = λ is. cc is; no_want = λ is. cc is }
own_own (Name name) = name_own name
own_own (Number n) = record { no_fault = λ is. cc is; no_want = λ is. cc is }

type_own : (why : Why) → IsErrorOfCertificate (type_error why)
type_own (Flawed Short) = record { no_fault = λ is. cc is; no_want = λ is. cc is }
type_own (Flawed NotUtf8) = record { no_fault = λ is. cc is; no_want = λ is. cc is }
type_own (Flawed Big) = record { no_fault = λ is. cc is; no_want = λ is. cc is }
type_own Length = own_own Length
type_own Magic = own_own Magic
type_own (Name name) = own_own (Name name)
type_own (Number n) = own_own (Number n)

options_own : (why : Why) → IsErrorOfCertificate (options_error why)
options_own (Flawed Short) = record { no_fault = λ is. cc is; no_want = λ is. cc is }
options_own (Flawed NotUtf8) = record { no_fault = λ is. cc is; no_want = λ is. cc is }
options_own (Flawed Big) = record { no_fault = λ is. cc is; no_want = λ is. cc is }
options_own Length = own_own Length
options_own Magic = own_own Magic
options_own (Name name) = record { no_fault = λ is. cc is; no_want = λ is. cc is }
options_own (Number n) = own_own (Number n)

extensions_own : (why : Why) → IsErrorOfCertificate (extensions_error why)
extensions_own (Flawed Short) = record { no_fault = λ is. cc is; no_want = λ is. cc is }
extensions_own (Flawed NotUtf8) = record { no_fault = λ is. cc is; no_want = λ is. cc is }
extensions_own (Flawed Big) = record { no_fault = λ is. cc is; no_want = λ is. cc is }
extensions_own Length = own_own Length
extensions_own Magic = own_own Magic
extensions_own (Name name) = own_own (Name name)
extensions_own (Number n) = own_own (Number n)

issuer_own : (why : Why) → IsErrorOfCertificate (issuer_error why)
issuer_own (Flawed Short) = record { no_fault = λ is. cc is; no_want = λ is. cc is }
issuer_own (Flawed NotUtf8) = record { no_fault = λ is. cc is; no_want = λ is. cc is }
issuer_own (Flawed Big) = record { no_fault = λ is. cc is; no_want = λ is. cc is }
issuer_own Length = record { no_fault = λ is. cc is; no_want = λ is. cc is }
issuer_own Magic = record { no_fault = λ is. cc is; no_want = λ is. cc is }
issuer_own (Name name) = record { no_fault = λ is. cc is; no_want = λ is. cc is }
issuer_own (Number n) = record { no_fault = λ is. cc is; no_want = λ is. cc is }

signature_own : (why : Why) → IsErrorOfCertificate (signature_part_error why)
signature_own (Flawed Short) = record { no_fault = λ is. cc is; no_want = λ is. cc is }
signature_own (Flawed NotUtf8) = record { no_fault = λ is. cc is; no_want = λ is. cc is }
signature_own (Flawed Big) = record { no_fault = λ is. cc is; no_want = λ is. cc is }
signature_own Length = own_own Length
signature_own Magic = own_own Magic
signature_own (Name name) = record { no_fault = λ is. cc is; no_want = λ is. cc is }
signature_own (Number n) = own_own (Number n)

pub cert_is_own : (reason : CertReason) → IsErrorOfCertificate (cert_error reason)
cert_is_own (parts.Name, why) = own_own why
cert_is_own (parts.Nonce, why) = own_own why
cert_is_own (parts.Subject, why) = own_own why
cert_is_own (parts.Serial, why) = own_own why
cert_is_own (parts.CertType, why) = type_own why
cert_is_own (parts.KeyId, why) = own_own why
cert_is_own (parts.Principals, why) = own_own why
cert_is_own (parts.After, why) = own_own why
cert_is_own (parts.Before, why) = own_own why
cert_is_own (parts.Options, why) = options_own why
cert_is_own (parts.Extensions, why) = extensions_own why
cert_is_own (parts.Reserved, why) = own_own why
cert_is_own (parts.IssuerString, why) = own_own why
cert_is_own (parts.Issuer, why) = issuer_own why
cert_is_own (parts.Signature, why) = signature_own why

-- ---- lines

abbrev pub RefusesOwn : {A : Type 0} → Result A SshCertificateError → Type 0
RefusesOwn r = (e : SshCertificateError) → r ≡ Err e → IsErrorOfCertificate e

own_err : {A : Type 0} (r : Result A SshCertificateError) (f : SshCertificateError) → r ≡ Err f → IsErrorOfCertificate f
    → RefusesOwn r
own_err r f refused own e is =
    let same : f ≡ e = cc (refused, is) in
    subst IsErrorOfCertificate same own

own_ok : {A : Type 0} (v : A) → RefusesOwn (Ok v)
own_ok v e is = cc is

pub own_then : {A B : Type 0} (r : Result A SshCertificateError) (next : A → Result B SshCertificateError)
    → RefusesOwn r → ((v : A) → RefusesOwn (next v)) → RefusesOwn (and_then r next)
own_then (Ok v) next first second = second v
own_then (Err f) next first second = own_err _ f refl (first f refl)

pub own_if : {A : Type 0} (b : Bool) (r : Result A SshCertificateError) (f : SshCertificateError) → RefusesOwn r
    → IsErrorOfCertificate f
    → RefusesOwn (if b then r else Err f)
own_if true r f whole own = whole
own_if false r f whole own = own_err _ f refl own

own_or : {A : Type 0} (o : Option A) (f : SshCertificateError) → IsErrorOfCertificate f → RefusesOwn (ok_or o f)
own_or (Some v) f own = own_ok v
own_or None f own = own_err _ f refl own

pub too_long : IsErrorOfCertificate errors.TooLong
too_long = record { no_fault = λ is. cc is; no_want = λ is. cc is }

tagged_own : {A : Type 0} (r : Result A CertReason) → RefusesOwn (map_err cert_error r)
tagged_own (Ok v) = own_ok v
tagged_own (Err reason) = own_err _ (cert_error reason) refl (cert_is_own reason)

blob_own : (bytes : List ℕ) → RefusesOwn (blob_certificate bytes)
unfolding blob_certificate
blob_own bytes = tagged_own (read_front certificate bytes)

body_own : (body : List ℕ) → RefusesOwn (body_certificate body)
unfolding body_certificate
body_own body =
    own_then (ok_or (decoded body) errors.Base64DecodeError) blob_certificate
    (own_or (decoded body) errors.Base64DecodeError (record { no_fault = λ is. cc is; no_want = λ is. cc is })) blob_own

unknown_own : (b : Bool) (name : List ℕ)
    → RefusesOwn {A = SshCertKeyType} (if b then Err (errors.InvalidCertificateKeyType name) else Err errors.TooLong)
unknown_own true name =
    own_err _ (errors.InvalidCertificateKeyType name) refl (record { no_fault = λ is. cc is; no_want = λ is. cc is })
unknown_own false name = own_err _ errors.TooLong refl too_long

entry_own : (name : List ℕ) (o : Option SshCertKeyType)
    → RefusesOwn (entry_or errors.InvalidCertificateKeyType errors.TooLong name o)
entry_own name (Some t) = own_ok t
entry_own name None = unknown_own (nat_lt (length name) (2 ^ 32)) name

word_own : (word : List ℕ) → RefusesOwn (word_type word)
unfolding word_type
word_own word =
    own_if (is_utf8 word) _ errors.InvalidUtf8 (entry_own word (find_entry cert_key_types word))
    (record { no_fault = λ is. cc is; no_want = λ is. cc is })

pub line_own : (line : List ℕ) → RefusesOwn (cert_line_meaning line)
unfolding cert_line_meaning cert_words_meaning
line_own line =
    own_then (word_type (first_word line)) _ (word_own (first_word line)) (λ key_type.
    own_if (is_short (body_word line) && is_short_text (comment_text line)) _ errors.TooLong
    (own_then (body_certificate (body_word line)) _ (body_own (body_word line)) (λ c.
    own_then (ok_or (comment_text line) errors.InvalidUtf8) _
    (own_or (comment_text line) errors.InvalidUtf8 (record { no_fault = λ is. cc is; no_want = λ is. cc is }))
    (λ comment. own_ok _))) too_long)
