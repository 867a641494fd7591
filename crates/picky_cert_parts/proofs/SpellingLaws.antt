-- What is read is the one spelling, but for the total of a signature.
use Rattle.std.specs.Prelude.{◌≡◌, ◌<◌, ◌^◌, ◌+◌, ◌++◌, Bool, true, false, not, List, [], ◌∷◌, ℕ, length, Ok}
use Rattle.std.specs.{Int.{w8, w32, to_be_bytes}, List.{concat}}
use Rattle.std.proofs.{Common.{refl, sym, ap, subst, ◌∙◌, arith}, lemmas.List.{length-append}}
use Rattle.picky_wire_base.specs.{Grammar.{Grammar}, Numbers.{IsBytes}, Wire.{string_of}}
use Rattle.picky_wire_base.proofs.Numbers.{bytes_in_front, bytes_behind, byte_exact, uint32_exact}
use Rattle.picky_wire_base.proofs.{Strings.{string_exact, text_exact}, Named.{named_exact}}
use Rattle.picky_keys.specs.Key.{IsString}
use Rattle.picky_keys.proofs.BlobExact.{first_is}
use Rattle.picky_cert_parts.specs.declared.option_type.SshCriticalOptionType.{SshCriticalOptionType}
use Rattle.picky_cert_parts.specs.declared.extension_type.SshExtensionType.{SshExtensionType}
use Rattle.picky_cert_parts.specs.declared.signature_format.SshSignatureFormat.{SshSignatureFormat}
use Rattle.picky_cert_parts.specs.CertNames.{option_name, format_name, is_sk}
use Rattle.picky_cert_parts.specs.CertNameTables.{option_types, signature_formats}
use Rattle.picky_cert_parts.specs.ExtensionType.{extension_name, IsExtensionType}
use Rattle.picky_cert_parts.specs.declared.cert_type.SshCertType.{SshCertType}
use Rattle.picky_cert_parts.specs.declared.critical_option.SshCriticalOption.{SshCriticalOption}
use Rattle.picky_cert_parts.specs.declared.extension.SshExtension.{SshExtension}
use Rattle.picky_cert_parts.specs.declared.signature.SshSignature.{SshSignature}
use Rattle.picky_cert_parts.specs.{declared.signature.SshSignatureBlob.{SshSignatureBlob}, NumberTable.{cert_types}}
use Rattle.picky_cert_parts.specs.CertType.{cert_type, cert_type_of}
use Rattle.picky_cert_parts.specs.CriticalOption.{critical_option, option_type, option_payload, option_of, IsCriticalOption}
use Rattle.picky_cert_parts.specs.Extension.{extension, extension_type, extension_payload, extension_of, IsExtension}
use Rattle.picky_cert_parts.specs.Signature.{signature_total, signature_format, signature_payload, signature_flags}
use Rattle.picky_cert_parts.specs.Signature.{signature_counter, standard_fields, sk_fields, fields_when, signature, total_of}
use Rattle.picky_cert_parts.specs.Signature.{blob_size, blob_fields, behind_total, signature_of, blob_fits, IsSignature}
use Rattle.picky_cert_parts.specs.SignatureSpelled.{SignatureSpelled}
use Rattle.picky_cert_parts.proofs.ExtensionNames.{name_is_kept, named_keeps}
use Rattle.picky_cert_parts.specs.declared.signature.SshSignatureBlob.TheVariants as blobs

-- the bytes of what is read in front
whole_front : {E A : Type 0} (G : Grammar E A) (of : A → List ℕ)
    → ((v : A) (bytes : List ℕ) → IsBytes bytes → G.piece v bytes → bytes ≡ of v)
    → (bytes : List ℕ) (v : A) (rest : List ℕ) → IsBytes bytes → G.read bytes ≡ Ok (v, rest) → bytes ≡ of v ++ rest
whole_front G of exact bytes v rest each is =
    let fits = G.sound bytes v rest is in
    first_is bytes fits.0 rest (of v) fits.2
    (exact v fits.0 (bytes_in_front fits.0 rest (subst IsBytes fits.2 each)) fits.1)

-- what holds of the value of each piece holds of what is read
of_read : {E A : Type 0} (G : Grammar E A) (P : A → Type 0)
    → ((v : A) (bytes : List ℕ) → IsBytes bytes → G.piece v bytes → P v)
    → (bytes : List ℕ) (v : A) (rest : List ℕ) → IsBytes bytes → G.read bytes ≡ Ok (v, rest) → P v
of_read G P kept bytes v rest each is =
    let fits = G.sound bytes v rest is in
    kept v fits.0 (bytes_in_front fits.0 rest (subst IsBytes fits.2 each)) fits.1

-- the bytes of a string that is a piece
in_string : (v bytes : List ℕ) → IsBytes bytes → bytes ≡ string_of v → IsBytes v
unfolding string_of
in_string v bytes each is = bytes_behind (to_be_bytes w32 (length v)) v (subst IsBytes is each)

-- two pieces joined, both of which are known
parts_are : (bytes x y v w : List ℕ) → bytes ≡ x ++ y → x ≡ v → y ≡ w → bytes ≡ v ++ w
parts_are bytes x y v w is first second = is ∙ ap (λ l. l ++ y) first ∙ ap (λ r. v ++ r) second

-- ---- types of certificates

cert_type_exact : (t : SshCertType) (bytes : List ℕ) → IsBytes bytes → cert_type.piece t bytes → bytes ≡ cert_type_of t
unfolding cert_type cert_type_of cert_types
cert_type_exact t bytes each (n, spells, has) =
    (uint32_exact n bytes each spells).0 ∙ ap (λ m. to_be_bytes w32 m) (sym has)

pub cert_type_is : (bytes : List ℕ) (t : SshCertType) (rest : List ℕ) → IsBytes bytes → cert_type.read bytes ≡ Ok (t, rest)
    → bytes ≡ cert_type_of t ++ rest
cert_type_is bytes t rest each is = whole_front cert_type cert_type_of cert_type_exact bytes t rest each is

-- ---- critical options

option_type_exact : (t : SshCriticalOptionType) (bytes : List ℕ) → IsBytes bytes → option_type.piece t bytes
    → bytes ≡ string_of (option_name t)
unfolding option_type option_types
option_type_exact t bytes each spells = named_exact 0 option_types t bytes each spells

option_payload_exact : (payload bytes : List ℕ) → IsBytes bytes → option_payload.piece payload bytes → bytes ≡ string_of payload
unfolding option_payload
option_payload_exact payload bytes each spells = (string_exact payload bytes each spells).0

option_exact : (o : SshCriticalOption) (bytes : List ℕ) → IsBytes bytes → critical_option.piece o bytes → bytes ≡ option_of o
unfolding critical_option option_of
option_exact o bytes each (name, x, y, name_is, (payload, z, w, payload_is, (is, none), inner), outer) =
    let b1 = subst IsBytes outer each in
    let b2 = subst IsBytes inner (bytes_behind x y b1) in
    let behind = parts_are y z w _ _ inner (option_payload_exact payload z (bytes_in_front z w b2) payload_is) none in
    parts_are bytes x y _ _ outer (option_type_exact name x (bytes_in_front x y b1) name_is) behind
    ∙ ap (λ (p : SshCriticalOption). concat (string_of (option_name p.option_type) ∷ string_of p.payload ∷ [])) (sym is)

pub option_is : (bytes : List ℕ) (o : SshCriticalOption) (rest : List ℕ) → IsBytes bytes
    → critical_option.read bytes ≡ Ok (o, rest) → bytes ≡ option_of o ++ rest
option_is bytes o rest each is = whole_front critical_option option_of option_exact bytes o rest each is

option_payload_kept : (payload bytes : List ℕ) → IsBytes bytes → option_payload.piece payload bytes → IsString payload
unfolding option_payload
option_payload_kept payload bytes each spells =
    let exact = string_exact payload bytes each spells in
    record { bytes = in_string payload bytes each exact.0; short = exact.1 }

option_kept : (o : SshCriticalOption) (bytes : List ℕ) → IsBytes bytes → critical_option.piece o bytes → IsCriticalOption o
unfolding critical_option
option_kept o bytes each (name, x, y, name_is, (payload, z, w, payload_is, (is, none), inner), outer) =
    let b1 = subst IsBytes outer each in
    let b2 = subst IsBytes inner (bytes_behind x y b1) in
    subst IsCriticalOption (sym is) (option_payload_kept payload z (bytes_in_front z w b2) payload_is)

pub option_keeps : (bytes : List ℕ) (o : SshCriticalOption) (rest : List ℕ) → IsBytes bytes
    → critical_option.read bytes ≡ Ok (o, rest) → IsCriticalOption o
option_keeps bytes o rest each is = of_read critical_option IsCriticalOption option_kept bytes o rest each is

-- ---- extensions

extension_type_exact : (t : SshExtensionType) (bytes : List ℕ) → IsBytes bytes → extension_type.piece t bytes
    → bytes ≡ string_of (extension_name t)
unfolding extension_type
extension_type_exact t bytes each (name, spells, named) =
    (text_exact name bytes each spells).0 ∙ ap string_of (sym (name_is_kept name) ∙ ap extension_name named)

extension_payload_exact : (payload bytes : List ℕ) → IsBytes bytes → extension_payload.piece payload bytes
    → bytes ≡ string_of payload
unfolding extension_payload
extension_payload_exact payload bytes each spells = (string_exact payload bytes each spells).0

extension_exact : (t : SshExtension) (bytes : List ℕ) → IsBytes bytes → extension.piece t bytes → bytes ≡ extension_of t
unfolding extension extension_of
extension_exact t bytes each (name, x, y, name_is, (payload, z, w, payload_is, (is, none), inner), outer) =
    let b1 = subst IsBytes outer each in
    let b2 = subst IsBytes inner (bytes_behind x y b1) in
    let behind = parts_are y z w _ _ inner (extension_payload_exact payload z (bytes_in_front z w b2) payload_is) none in
    parts_are bytes x y _ _ outer (extension_type_exact name x (bytes_in_front x y b1) name_is) behind
    ∙ ap (λ (p : SshExtension). concat (string_of (extension_name p.extension_type) ∷ string_of p.payload ∷ [])) (sym is)

pub extension_is : (bytes : List ℕ) (t : SshExtension) (rest : List ℕ) → IsBytes bytes
    → extension.read bytes ≡ Ok (t, rest) → bytes ≡ extension_of t ++ rest
extension_is bytes t rest each is = whole_front extension extension_of extension_exact bytes t rest each is

extension_type_kept : (t : SshExtensionType) (bytes : List ℕ) → IsBytes bytes → extension_type.piece t bytes → IsExtensionType t
unfolding extension_type
extension_type_kept t bytes each (name, spells, named) =
    let exact = text_exact name bytes each spells in
    subst IsExtensionType named (named_keeps name (record { short = exact.1; utf8 = exact.2 }))

extension_payload_kept : (payload bytes : List ℕ) → IsBytes bytes → extension_payload.piece payload bytes → IsString payload
unfolding extension_payload
extension_payload_kept payload bytes each spells =
    let exact = string_exact payload bytes each spells in
    record { bytes = in_string payload bytes each exact.0; short = exact.1 }

extension_kept : (t : SshExtension) (bytes : List ℕ) → IsBytes bytes → extension.piece t bytes → IsExtension t
unfolding extension
extension_kept t bytes each (name, x, y, name_is, (payload, z, w, payload_is, (is, none), inner), outer) =
    let b1 = subst IsBytes outer each in
    let b2 = subst IsBytes inner (bytes_behind x y b1) in
    subst IsExtension (sym is) (
      extension_type_kept name x (bytes_in_front x y b1) name_is,
      extension_payload_kept payload z (bytes_in_front z w b2) payload_is,
    )

pub extension_keeps : (bytes : List ℕ) (t : SshExtension) (rest : List ℕ) → IsBytes bytes
    → extension.read bytes ≡ Ok (t, rest) → IsExtension t
extension_keeps bytes t rest each is = of_read extension IsExtension extension_kept bytes t rest each is

-- ---- signatures

total_exact : (total : ℕ) (bytes : List ℕ) → IsBytes bytes → signature_total.piece total bytes
    → (bytes ≡ to_be_bytes w32 total) × (total < 2 ^ 32)
unfolding signature_total
total_exact total bytes each spells = uint32_exact total bytes each spells

format_exact : (t : SshSignatureFormat) (bytes : List ℕ) → IsBytes bytes → signature_format.piece t bytes
    → bytes ≡ string_of (format_name t)
unfolding signature_format signature_formats
format_exact t bytes each spells = named_exact 0 signature_formats t bytes each spells

payload_exact : (payload bytes : List ℕ) → IsBytes bytes → signature_payload.piece payload bytes
    → (bytes ≡ string_of payload) × IsString payload
unfolding signature_payload
payload_exact payload bytes each spells =
    let exact = string_exact payload bytes each spells in
    (exact.0, record { bytes = in_string payload bytes each exact.0; short = exact.1 })

flags_exact : (flags : ℕ) (bytes : List ℕ) → IsBytes bytes → signature_flags.piece flags bytes
    → (bytes ≡ to_be_bytes w8 flags) × (flags < 2 ^ 8)
unfolding signature_flags
flags_exact flags bytes each spells = byte_exact flags bytes each spells

counter_exact : (counter : ℕ) (bytes : List ℕ) → IsBytes bytes → signature_counter.piece counter bytes
    → (bytes ≡ to_be_bytes w32 counter) × (counter < 2 ^ 32)
unfolding signature_counter
counter_exact counter bytes each spells = uint32_exact counter bytes each spells

-- the bytes behind the name are the blob's, which the format has
record RestSpelled (format : SshSignatureFormat) (s : SshSignature) (bytes : List ℕ) : Type 0 where
  are : bytes ≡ concat (blob_fields s.blob)
  format_is : s.format ≡ format
  is : IsSignature s
  fits : blob_fits s.format s.blob ≡ true

standard_exact : (format : SshSignatureFormat) (s : SshSignature) (bytes : List ℕ) → IsBytes bytes → is_sk format ≡ false
    → (standard_fields format).piece s bytes → RestSpelled format s bytes
unfolding standard_fields
standard_exact format s bytes each sk (payload, x, y, payload_is, (is, none), outer) =
    let b1 = subst IsBytes outer each in
    let exact = payload_exact payload x (bytes_in_front x y b1) payload_is in
    subst (λ v. RestSpelled format v bytes) (sym is) (record {
      are = parts_are bytes x y _ _ outer exact.0 none;
      format_is = refl;
      is = exact.1;
      fits = ap not sk;
    })

sk_exact : (format : SshSignatureFormat) (s : SshSignature) (bytes : List ℕ) → IsBytes bytes → is_sk format ≡ true
    → (sk_fields format).piece s bytes → RestSpelled format s bytes
unfolding sk_fields
sk_exact format s bytes each sk (payload, x1, y1, payload_is, (flags, x2, y2, flags_is, (counter, x3, y3, counter_is, (is, none), j3), j2), j1) =
    let b1 = subst IsBytes j1 each in
    let b2 = subst IsBytes j2 (bytes_behind x1 y1 b1) in
    let b3 = subst IsBytes j3 (bytes_behind x2 y2 b2) in
    let payload_exact_is = payload_exact payload x1 (bytes_in_front x1 y1 b1) payload_is in
    let flags_exact_is = flags_exact flags x2 (bytes_in_front x2 y2 b2) flags_is in
    let counter_exact_is = counter_exact counter x3 (bytes_in_front x3 y3 b3) counter_is in
    let r3 = parts_are y2 x3 y3 _ _ j3 counter_exact_is.0 none in
    let r2 = parts_are y1 x2 y2 _ _ j2 flags_exact_is.0 r3 in
    subst (λ v. RestSpelled format v bytes) (sym is) (record {
      are = parts_are bytes x1 y1 _ _ j1 payload_exact_is.0 r2;
      format_is = refl;
      is = (payload_exact_is.1, flags_exact_is.1, counter_exact_is.1);
      fits = sk;
    })

when_exact : (sk : Bool) (format : SshSignatureFormat) (s : SshSignature) (bytes : List ℕ) → IsBytes bytes → is_sk format ≡ sk
    → (fields_when sk format).piece s bytes → RestSpelled format s bytes
when_exact true format s bytes each sk spells = sk_exact format s bytes each sk spells
when_exact false format s bytes each sk spells = standard_exact format s bytes each sk spells

-- a piece is the signature behind some total
signature_exact : (s : SshSignature) (front rest : List ℕ) → IsBytes front → signature.piece s front
    → SignatureSpelled (front ++ rest) s rest
unfolding signature behind_total
signature_exact s front rest each (total, x, y, total_is, (format, z, w, format_is, rest_is, inner), outer) =
    let b1 = subst IsBytes outer each in
    let b2 = subst IsBytes inner (bytes_behind x y b1) in
    let number = total_exact total x (bytes_in_front x y b1) total_is in
    let fields = when_exact (is_sk format) format s w (bytes_behind z w b2) refl rest_is in
    let name = format_exact format z (bytes_in_front z w b2) format_is
    ∙ ap (λ f. string_of (format_name f)) (sym fields.format_is) in
    record {
      total = total;
      small = number.1;
      are = ap (λ l. l ++ rest) (parts_are front x y _ _ outer number.0 (parts_are y z w _ _ inner name fields.are));
      is = fields.is;
      fits = fields.fits;
    }

pub signature_is : (bytes : List ℕ) (s : SshSignature) (rest : List ℕ) → IsBytes bytes → signature.read bytes ≡ Ok (s, rest)
    → SignatureSpelled bytes s rest
signature_is bytes s rest each is =
    let fits = signature.sound bytes s rest is in
    subst (λ b. SignatureSpelled b s rest) (sym fits.2)
    (signature_exact s fits.0 rest (bytes_in_front fits.0 rest (subst IsBytes fits.2 each)) fits.1)

pub signature_keeps : (bytes : List ℕ) (s : SshSignature) (rest : List ℕ) → IsBytes bytes
    → signature.read bytes ≡ Ok (s, rest) → IsSignature s
signature_keeps bytes s rest each is = (signature_is bytes s rest each is).is

pub signature_fits : (bytes : List ℕ) (s : SshSignature) (rest : List ℕ) → IsBytes bytes
    → signature.read bytes ≡ Ok (s, rest) → blob_fits s.format s.blob ≡ true
signature_fits bytes s rest each is = (signature_is bytes s rest each is).fits

pub ruleset spelling_laws = (cert_type_is, option_is, extension_is, signature_is)

pub ruleset keeping_laws = (option_keeps, extension_keeps, signature_keeps, signature_fits)

-- ---- the total that is written

string_len : (v : List ℕ) → length (string_of v) ≡ 4 + length v
unfolding string_of
string_len v = length-append (to_be_bytes w32 (length v)) v ∙ omega arith

blob_len : (blob : SshSignatureBlob) → length (concat (blob_fields blob)) ≡ 4 + blob_size blob
blob_len (blobs.Standard payload) = omega (arith, length-append (string_of payload) [], string_len payload)
blob_len (blobs.Sk payload flags counter) =
    omega (arith, length-append (string_of payload) (to_be_bytes w8 flags ++ to_be_bytes w32 counter ++ []), string_len payload)

pub total_is_length : (s : SshSignature) → length (signature_of s) ≡ 4 + total_of s
unfolding signature_of behind_total
total_is_length s =
    omega (
      arith,
      length-append (string_of (format_name s.format)) (concat (blob_fields s.blob)),
      string_len (format_name s.format),
      blob_len s.blob,
    )
