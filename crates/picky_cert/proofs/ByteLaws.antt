-- What is written of a certificate is bytes.
use Rattle.std.specs.Prelude.{List, [], ◌∷◌, ◌++◌, ℕ, zero, suc, ◌<◌, flat_map, All}
use Rattle.std.specs.{Int.{w8, w32, w64, to_be_bytes}, List.{AllByRecursion}}
use Rattle.std.proofs.Common.{refl, arith}
use Rattle.picky_wire_base.specs.{Numbers.{IsBytes}, Wire.{string_of}}
use Rattle.picky_wire.specs.Principals.{IsPrincipal}
use Rattle.picky_keys.proofs.ByteLaws.{bytes_by_test, bytes_joined, no_bytes, number_bytes, string_bytes_each, utf8_is_bytes}
use Rattle.picky_keys.proofs.LineLaws.{blob_is_bytes, fields_bytes}
use Rattle.picky_cert_parts.specs.declared.cert_key_type.SshCertKeyType.{SshCertKeyType}
use Rattle.picky_cert_parts.specs.declared.option_type.SshCriticalOptionType.{SshCriticalOptionType}
use Rattle.picky_cert_parts.specs.declared.known_extension.KnownExtension.{KnownExtension}
use Rattle.picky_cert_parts.specs.declared.extension_type.SshExtensionType.{SshExtensionType}
use Rattle.picky_cert_parts.specs.declared.signature_format.SshSignatureFormat.{SshSignatureFormat}
use Rattle.picky_cert_parts.specs.CertNames.{cert_key_type_name, option_name, known_name, format_name}
use Rattle.picky_cert_parts.specs.ExtensionType.{extension_name, IsExtensionType}
use Rattle.picky_cert_parts.specs.declared.cert_type.SshCertType.{SshCertType}
use Rattle.picky_cert_parts.specs.declared.critical_option.SshCriticalOption.{SshCriticalOption}
use Rattle.picky_cert_parts.specs.declared.extension.SshExtension.{SshExtension}
use Rattle.picky_cert_parts.specs.declared.signature.SshSignature.{SshSignature}
use Rattle.picky_cert_parts.specs.{declared.signature.SshSignatureBlob.{SshSignatureBlob}, CertType.{cert_type_of}}
use Rattle.picky_cert_parts.specs.{CertNumber.{cert_type_number}, CriticalOption.{option_of, IsCriticalOption}}
use Rattle.picky_cert_parts.specs.Extension.{extension_of, IsExtension}
use Rattle.picky_cert_parts.specs.Signature.{behind_total, signature_of, total_of, IsBlob, IsSignature}
use Rattle.picky_cert_parts.specs.declared.cert_key_type.SshCertKeyType.TheVariants as keytypes
use Rattle.picky_cert_parts.specs.declared.option_type.SshCriticalOptionType.TheVariants as options
use Rattle.picky_cert_parts.specs.declared.known_extension.KnownExtension.TheVariants as known
use Rattle.picky_cert_parts.specs.declared.extension_type.SshExtensionType.TheVariants as extensions
use Rattle.picky_cert_parts.specs.declared.signature_format.SshSignatureFormat.TheVariants as formats
use Rattle.picky_cert_parts.specs.declared.signature.SshSignatureBlob.TheVariants as blobs
use Rattle.picky_cert_blob.specs.{Layout.{Grants, Head, Terms}, Keeps.{IsGrants, IsHead, IsTerms}}
use Rattle.picky_cert_blob.specs.Spelled.{body_spelled, grants_spelled, head_spelled, terms_spelled}
use Rattle.picky_cert.specs.{declared.certificate.SshCertificate.{SshCertificate}, Certificate.{said}}
use Rattle.picky_cert.specs.{Keeps.{IsCertificate}, Spelled.{cert_blob_of, signed_of}}

-- ---- numbers

by_recursion : (bytes : List ℕ) → AllByRecursion (λ b. b < 256) bytes → IsBytes bytes
by_recursion [] each i = omega arith
by_recursion (b ∷ bytes) each zero = each.0
by_recursion (b ∷ bytes) each (suc i) = by_recursion bytes each.1 i

byte_bytes : (n : ℕ) → IsBytes (to_be_bytes w8 n)
byte_bytes n zero = omega arith
byte_bytes n (suc i) = omega arith

long_bytes : (n : ℕ) → IsBytes (to_be_bytes w64 n)
long_bytes n =
    by_recursion (to_be_bytes w64 n) (
      omega arith,
      (omega arith, (omega arith, (omega arith, (omega arith, (omega arith, (omega arith, (omega arith, tt))))))),
    )

-- ---- names

pub type_name_bytes : (t : SshCertKeyType) → IsBytes (cert_key_type_name t)
unfolding cert_key_type_name
type_name_bytes keytypes.SshRsaV01 = bytes_by_test (cert_key_type_name keytypes.SshRsaV01) refl
type_name_bytes keytypes.SshDssV01 = bytes_by_test (cert_key_type_name keytypes.SshDssV01) refl
type_name_bytes keytypes.RsaSha2_256V01 = bytes_by_test (cert_key_type_name keytypes.RsaSha2_256V01) refl
type_name_bytes keytypes.RsaSha2_512v01 = bytes_by_test (cert_key_type_name keytypes.RsaSha2_512v01) refl
type_name_bytes keytypes.EcdsaSha2Nistp256V01 = bytes_by_test (cert_key_type_name keytypes.EcdsaSha2Nistp256V01) refl
type_name_bytes keytypes.EcdsaSha2Nistp384V01 = bytes_by_test (cert_key_type_name keytypes.EcdsaSha2Nistp384V01) refl
type_name_bytes keytypes.EcdsaSha2Nistp521V01 = bytes_by_test (cert_key_type_name keytypes.EcdsaSha2Nistp521V01) refl
type_name_bytes keytypes.SshEd25519V01 = bytes_by_test (cert_key_type_name keytypes.SshEd25519V01) refl
type_name_bytes keytypes.SkSshSha2Nistp256V01 = bytes_by_test (cert_key_type_name keytypes.SkSshSha2Nistp256V01) refl
type_name_bytes keytypes.SkSshEd25519V01 = bytes_by_test (cert_key_type_name keytypes.SkSshEd25519V01) refl

option_name_bytes : (t : SshCriticalOptionType) → IsBytes (option_name t)
unfolding option_name
option_name_bytes options.ForceCommand = bytes_by_test (option_name options.ForceCommand) refl
option_name_bytes options.SourceAddress = bytes_by_test (option_name options.SourceAddress) refl
option_name_bytes options.VerifyRequired = bytes_by_test (option_name options.VerifyRequired) refl

known_name_bytes : (t : KnownExtension) → IsBytes (known_name t)
unfolding known_name
known_name_bytes known.NoTouchRequired = bytes_by_test (known_name known.NoTouchRequired) refl
known_name_bytes known.PermitX11Forwarding = bytes_by_test (known_name known.PermitX11Forwarding) refl
known_name_bytes known.PermitAgentForwarding = bytes_by_test (known_name known.PermitAgentForwarding) refl
known_name_bytes known.PermitPortForwarding = bytes_by_test (known_name known.PermitPortForwarding) refl
known_name_bytes known.PermitPty = bytes_by_test (known_name known.PermitPty) refl
known_name_bytes known.PermitUserPc = bytes_by_test (known_name known.PermitUserPc) refl

extension_name_bytes : (t : SshExtensionType) → IsExtensionType t → IsBytes (extension_name t)
extension_name_bytes extensions.NoTouchRequired is = known_name_bytes known.NoTouchRequired
extension_name_bytes extensions.PermitX11Forwarding is = known_name_bytes known.PermitX11Forwarding
extension_name_bytes extensions.PermitAgentForwarding is = known_name_bytes known.PermitAgentForwarding
extension_name_bytes extensions.PermitPortForwarding is = known_name_bytes known.PermitPortForwarding
extension_name_bytes extensions.PermitPty is = known_name_bytes known.PermitPty
extension_name_bytes extensions.PermitUserPc is = known_name_bytes known.PermitUserPc
extension_name_bytes (extensions.Other name) is = utf8_is_bytes name is.0.utf8

format_name_bytes : (t : SshSignatureFormat) → IsBytes (format_name t)
unfolding format_name
format_name_bytes formats.SshRsa = bytes_by_test (format_name formats.SshRsa) refl
format_name_bytes formats.RsaSha256 = bytes_by_test (format_name formats.RsaSha256) refl
format_name_bytes formats.RsaSha512 = bytes_by_test (format_name formats.RsaSha512) refl
format_name_bytes formats.EcdsaSha2Nistp256 = bytes_by_test (format_name formats.EcdsaSha2Nistp256) refl
format_name_bytes formats.EcdsaSha2Nistp384 = bytes_by_test (format_name formats.EcdsaSha2Nistp384) refl
format_name_bytes formats.EcdsaSha2Nistp521 = bytes_by_test (format_name formats.EcdsaSha2Nistp521) refl
format_name_bytes formats.SshEd25519 = bytes_by_test (format_name formats.SshEd25519) refl
format_name_bytes formats.SkEcdsaSha2NistP256 = bytes_by_test (format_name formats.SkEcdsaSha2NistP256) refl
format_name_bytes formats.SkEd25519 = bytes_by_test (format_name formats.SkEd25519) refl

-- ---- lists

-- the spellings of a list are bytes where each value's is
list_bytes : {A : Type 0} (spelling : A → List ℕ) (keeps : A → Type 0) → ((v : A) → keeps v → IsBytes (spelling v))
    → (vs : List A) → All keeps vs → IsBytes (flat_map spelling vs)
list_bytes spelling keeps each [] all = no_bytes
list_bytes spelling keeps each (v ∷ vs) all =
    let rest : All keeps vs = λ k d below. all (suc k) d (omega arith) in
    bytes_joined (spelling v) (flat_map spelling vs) (each v (all 0 v (omega arith))) (list_bytes spelling keeps each vs rest)

principal_bytes : (v : List ℕ) → IsPrincipal v → IsBytes (string_of v)
principal_bytes v is = string_bytes_each v (utf8_is_bytes v is.utf8)

option_bytes : (o : SshCriticalOption) → IsCriticalOption o → IsBytes (option_of o)
unfolding option_of
option_bytes o is =
    bytes_joined _ _ (string_bytes_each _ (option_name_bytes o.option_type))
    (bytes_joined _ _ (string_bytes_each o.payload is.bytes) no_bytes)

extension_bytes : (x : SshExtension) → IsExtension x → IsBytes (extension_of x)
unfolding extension_of
extension_bytes x is =
    bytes_joined _ _ (string_bytes_each _ (extension_name_bytes x.extension_type is.0))
    (bytes_joined _ _ (string_bytes_each x.payload is.1.bytes) no_bytes)

-- ---- what is signed

head_bytes : (h : Head) → IsHead h → IsBytes (head_spelled h)
unfolding head_spelled
head_bytes h is =
    bytes_joined _ _ (string_bytes_each _ (type_name_bytes h.cert_key_type))
    (bytes_joined _ _ (string_bytes_each h.nonce is.nonce.bytes) (bytes_joined _ _ (fields_bytes h.key is.key) no_bytes))

type_bytes : (t : SshCertType) → IsBytes (cert_type_of t)
unfolding cert_type_of
type_bytes t = number_bytes (cert_type_number t)

terms_bytes : (t : Terms) → IsTerms t → IsBytes (terms_spelled t)
unfolding terms_spelled
terms_bytes t is =
    bytes_joined (to_be_bytes w64 t.serial) _ (long_bytes t.serial)
    (bytes_joined _ _ (type_bytes t.cert_type)
    (bytes_joined _ _ (string_bytes_each t.key_id is.key_id.string.bytes)
    (bytes_joined _ _ (string_bytes_each _ (list_bytes string_of IsPrincipal principal_bytes t.principals is.principals))
    (bytes_joined (to_be_bytes w64 t.after.0) (to_be_bytes w64 t.before.0 ++ []) (long_bytes t.after.0)
    (bytes_joined (to_be_bytes w64 t.before.0) [] (long_bytes t.before.0) no_bytes)))))

grants_bytes : (g : Grants) → IsGrants g → IsBytes (grants_spelled g)
unfolding grants_spelled
grants_bytes g is =
    bytes_joined _ _ (string_bytes_each _ (list_bytes option_of IsCriticalOption option_bytes g.options is.options))
    (bytes_joined _ _ (string_bytes_each _ (list_bytes extension_of IsExtension extension_bytes g.extensions is.extensions))
    (bytes_joined _ _ (string_bytes_each [] no_bytes)
    (bytes_joined _ _ (string_bytes_each _ (blob_is_bytes g.issuer is.issuer)) no_bytes)))

pub signed_bytes : (c : SshCertificate) → IsCertificate c → IsBytes (signed_of c)
unfolding signed_of body_spelled
signed_bytes c is =
    bytes_joined _ _ (head_bytes (said c).head is.said.head)
    (bytes_joined _ _ (terms_bytes (said c).terms is.said.terms)
    (bytes_joined _ _ (grants_bytes (said c).grants is.said.grants) no_bytes))

-- ---- all of it

behind_bytes : (total : ℕ) (format : SshSignatureFormat) (blob : SshSignatureBlob) → IsBlob blob
    → IsBytes (behind_total total (record { format = format; blob = blob }))
unfolding behind_total
behind_bytes total format (blobs.Standard payload) is =
    bytes_joined (to_be_bytes w32 total) _ (number_bytes total)
    (bytes_joined _ _ (string_bytes_each _ (format_name_bytes format))
    (bytes_joined _ _ (string_bytes_each payload is.bytes) no_bytes))
behind_bytes total format (blobs.Sk payload flags counter) is =
    bytes_joined (to_be_bytes w32 total) _ (number_bytes total)
    (bytes_joined _ _ (string_bytes_each _ (format_name_bytes format))
    (bytes_joined _ _ (string_bytes_each payload is.0.bytes)
    (bytes_joined (to_be_bytes w8 flags) (to_be_bytes w32 counter ++ []) (byte_bytes flags)
    (bytes_joined (to_be_bytes w32 counter) [] (number_bytes counter) no_bytes))))

signature_bytes : (s : SshSignature) → IsSignature s → IsBytes (signature_of s)
unfolding signature_of
signature_bytes s is = behind_bytes (total_of s) s.format s.blob is

-- A certificate is written as bytes.
pub blob_bytes : (c : SshCertificate) → IsCertificate c → IsBytes (cert_blob_of c)
unfolding cert_blob_of
blob_bytes c is = bytes_joined (signed_of c) _ (signed_bytes c is) (signature_bytes c.signature is.signature)
