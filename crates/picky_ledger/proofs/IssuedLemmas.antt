-- A certificate that was made for a request is an entry's.
use Rattle.std.proofs.Common.{◌≡◌, ◌∙◌, ℕ, ◌<◌, ◌^◌, List, Some, Result, Ok, Err, refl, sym, ap, subst, arith}
use Rattle.std.specs.Prelude.{length, IfOk}
use Rattle.std.specs.Str.{IsUtf8, trim_end}
use Rattle.picky_wire_base.specs.Numbers.{IsBytes}
use Rattle.picky_text.specs.Lines.{HasNo}
use Rattle.picky_text.proofs.WordLaws.{rest_has_no_cr, rest_has_no_lf, rest_is_trimmed}
use Rattle.picky_text.specs.Words.{after_body}
use Rattle.picky_suite.specs.Signs.{SignRelation}
use Rattle.picky_keys.specs.declared.key.SshBasePublicKey.{SshBasePublicKey}
use Rattle.picky_keys.specs.declared.key.SshPublicKey.{SshPublicKey}
use Rattle.picky_keys.specs.Key.{IsString}
use Rattle.picky_keys.specs.Line.{IsPublicLine}
use Rattle.picky_cert_parts.specs.Signature.{IsSignature}
use Rattle.picky_cert.specs.declared.certificate.SshCertificate.{SshCertificate}
use Rattle.picky_cert.specs.Certificate.{bare}
use Rattle.picky_cert.specs.Line.{IsReadBackCertificate}
use Rattle.picky_cert.specs.Spelled.{cert_line_of}
use Rattle.picky_keys.proofs.ByteLaws.{utf8_is_bytes}
use Rattle.picky_cert_builder.specs.Built.{IsBuilt}
use Rattle.picky_cert_builder.specs.declared.error.SshCertificateGenerationError.{SshCertificateGenerationError}
use Rattle.picky_cert_builder.specs.Draft.{IsSigned, Unsigned, certificate_of, requested, signed_with}
use Rattle.picky_cert_builder.specs.Keeps.{IsRequest, without_key_comments}
use Rattle.picky_cert_builder.proofs.MadeLaws.{made_comment, requested_is_made, signed_is_kept}
use Rattle.picky_request.specs.Builder.{asked_of}
use Rattle.picky_request.specs.Request.{request_in}
use Rattle.picky_request.specs.declared.request.CertRequestLine.{CertRequestLine}
use Rattle.picky_request.proofs.LineLaws.{line_is_one}
use Rattle.picky_ledger.specs.Entry.{IsEntry, entry_of}

-- ---- its fields

made_id : (issuer : SshBasePublicKey) (serial : ℕ) (r : CertRequestLine) (nonce : List ℕ) (u : Unsigned)
    → requested (asked_of issuer serial r) nonce ≡ Ok u → u.certificate.key_id ≡ r.id
made_id issuer serial r nonce u is =
    let made = requested_is_made (asked_of issuer serial r) nonce u is in ap (λ (c : SshCertificate). c.key_id) (sym made.is)

made_serial : (issuer : SshBasePublicKey) (serial : ℕ) (r : CertRequestLine) (nonce : List ℕ) (u : Unsigned)
    → requested (asked_of issuer serial r) nonce ≡ Ok u → u.certificate.serial ≡ serial
made_serial issuer serial r nonce u is =
    let made = requested_is_made (asked_of issuer serial r) nonce u is in ap (λ (c : SshCertificate). c.serial) (sym made.is)

-- The certificate has the request's id and the serial.
pub signed_fields : (signs : SignRelation) (issuer : SshBasePublicKey) (serial : ℕ) (r : CertRequestLine) (nonce : List ℕ) (u : Unsigned)
    (c : SshCertificate) → requested (asked_of issuer serial r) nonce ≡ Ok u → IsSigned signs u c
    → (c.key_id ≡ r.id) × (c.serial ≡ serial)
signed_fields signs issuer serial r nonce u c is signed = (
  ap (λ (d : SshCertificate). d.key_id) signed.1 ∙ made_id issuer serial r nonce u is,
  ap (λ (d : SshCertificate). d.serial) signed.1 ∙ made_serial issuer serial r nonce u is,
)

-- ---- its line is read back

-- a certificate whose keys have no comments is the same without them
same_without : (c : SshCertificate) → c.public_key ≡ bare c.public_key.inner_key → c.signature_key ≡ bare c.signature_key.inner_key
    → without_key_comments c ≡ c
same_without c subject issuer =
    let same : c ≡ without_key_comments c = λ i. record c { public_key = subject i; signature_key = issuer i } in sym same

bare_same : (k : SshBasePublicKey) (key : SshPublicKey) → Some (bare k) ≡ Some key → key ≡ bare key.inner_key
bare_same k key is = let same : bare k ≡ key = cc is in subst (λ (x : SshPublicKey). x ≡ bare x.inner_key) same refl

-- its keys have no comments
made_without : (issuer : SshBasePublicKey) (serial : ℕ) (r : CertRequestLine) (nonce : List ℕ) (u : Unsigned) (bytes : List ℕ)
    → requested (asked_of issuer serial r) nonce ≡ Ok u
    → without_key_comments (signed_with u.certificate bytes) ≡ signed_with u.certificate bytes
made_without issuer serial r nonce u bytes is =
    let b = asked_of issuer serial r in
    let made = requested_is_made b nonce u is in
    let subject = bare_same r.key.inner_key made.key made.key_is in
    let whole = same_without (signed_with (certificate_of b made.fit made.key made.issuer nonce) bytes) subject refl in
    subst (λ (c : SshCertificate). without_key_comments (signed_with c bytes) ≡ signed_with c bytes) made.is whole

-- the comment of a request's key is one that a line carries
record IsCarried (comment : List ℕ) : Type 0 where
  no_cr : HasNo 13 comment
  no_lf : HasNo 10 comment
  trimmed : trim_end comment ≡ comment

key_carried : (line : List ℕ) (key : SshPublicKey) → IsPublicLine line key → IsCarried key.comment
key_carried line key is =
    let rest : List ℕ = after_body line in
    record {
      no_cr = rw is.comment (rest_has_no_cr rest is.comment_utf8);
      no_lf = rw is.comment (rest_has_no_lf rest is.comment_utf8);
      trimmed = rw is.comment (rest_is_trimmed rest is.comment_utf8);
    }

signed_string : (c : SshCertificate) (u : Unsigned) (bytes : List ℕ) → c ≡ signed_with u.certificate bytes → IsSignature c.signature
    → IsString bytes
signed_string c u bytes is kept = subst (λ (d : SshCertificate). IsSignature d.signature) is kept

-- Signed, it has a line that is read back.
signed_has_line : (signs : SignRelation) (issuer : SshBasePublicKey) (serial : ℕ) (r : CertRequestLine) (nonce line : List ℕ)
    (u : Unsigned) (c : SshCertificate) → IsUtf8 line → request_in line ≡ Some r → IsRequest (asked_of issuer serial r)
    → IsString nonce → IsSignature c.signature → requested (asked_of issuer serial r) nonce ≡ Ok u → IsSigned signs u c
    → length (cert_line_of c) < 2 ^ 32 → IsReadBackCertificate c
signed_has_line signs issuer serial r nonce line u c utf8 asks kept is_nonce is_signature is signed short =
    let b = asked_of issuer serial r in
    let bytes = signed.0 in
    let request = (line_is_one line r (utf8_is_bytes line utf8)).0 asks in
    let carried = key_carried request.key_line r.key request.key in
    let comment : r.key.comment ≡ u.certificate.comment = made_comment b nonce u is in
    let whole : without_key_comments (signed_with u.certificate bytes) ≡ c =
    made_without issuer serial r nonce u bytes is ∙ sym signed.1 in
    subst IsReadBackCertificate whole
    (signed_is_kept b nonce u bytes kept is_nonce (signed_string c u bytes signed.1 is_signature) is
    (subst (HasNo 13) comment carried.no_cr) (subst (HasNo 10) comment carried.no_lf)
    (subst (λ (t : List ℕ). trim_end t ≡ t) comment carried.trimmed)
    (subst (λ (d : SshCertificate). length (cert_line_of d) < 2 ^ 32) signed.1 short))

-- Signed, it is an entry's.
signed_is_entry : (signs : SignRelation) (issuer : SshBasePublicKey) (serial : ℕ) (r : CertRequestLine) (nonce line : List ℕ)
    (u : Unsigned) (c : SshCertificate) → IsUtf8 line → request_in line ≡ Some r → IsRequest (asked_of issuer serial r)
    → IsString nonce → IsSignature c.signature → requested (asked_of issuer serial r) nonce ≡ Ok u → IsSigned signs u c
    → serial < 2 ^ 64 → IsEntry (entry_of r.id line c)
signed_is_entry signs issuer serial r nonce line u c utf8 asks kept is_nonce is_signature is signed fits = record {
  asks = r;
  request = asks;
  id = refl;
  text = utf8;
  serial = refl;
  fits = subst (λ (n : ℕ). n < 2 ^ 64) (sym (signed_fields signs issuer serial r nonce u c is signed).1) fits;
  kept = signed_has_line signs issuer serial r nonce line u c utf8 asks kept is_nonce is_signature is signed;
}

-- ---- what a builder answers

-- what is made was asked for
built_says : (signs : SignRelation) (says : Result Unsigned SshCertificateGenerationError) (rose : Type 0) (c : SshCertificate)
    → IsBuilt signs says rose (Ok c) → (u : Unsigned) × (says ≡ Ok u) × IsSigned signs u c
built_says signs (Ok u) rose c built = (u, refl, built)
built_says signs (Err e) rose c built = absurd built

-- It has the request's id and the serial.
pub built_fields : (signs : SignRelation) (issuer : SshBasePublicKey) (serial : ℕ) (r : CertRequestLine) (nonce : List ℕ) (rose : Type 0)
    (result : Result SshCertificate SshCertificateGenerationError)
    → IsBuilt signs (requested (asked_of issuer serial r) nonce) rose result
    → IfOk result (λ c. (c.key_id ≡ r.id) × (c.serial ≡ serial))
built_fields signs issuer serial r nonce rose (Ok c) built =
    let u = built_says signs (requested (asked_of issuer serial r) nonce) rose c built in
    signed_fields signs issuer serial r nonce u.0 c u.1 u.2
built_fields signs issuer serial r nonce rose (Err e) built = tt

-- It is an entry's.
pub built_is_entry : (signs : SignRelation) (issuer : SshBasePublicKey) (serial : ℕ) (r : CertRequestLine) (nonce : List ℕ) (rose : Type 0)
    (result : Result SshCertificate SshCertificateGenerationError) → serial < 2 ^ 64 → IsRequest (asked_of issuer serial r)
    → IsBytes nonce → length nonce ≡ 32 → IfOk result (λ c. IsSignature c.signature)
    → IsBuilt signs (requested (asked_of issuer serial r) nonce) rose result → (line : List ℕ) → IsUtf8 line
    → request_in line ≡ Some r → IfOk result (λ c. IsEntry (entry_of r.id line c))
built_is_entry signs issuer serial r nonce rose (Ok c) fits kept bytes len is_signature built line utf8 asks =
    let u = built_says signs (requested (asked_of issuer serial r) nonce) rose c built in
    let is_nonce : IsString nonce = record { bytes = bytes; short = omega (arith, len) } in
    signed_is_entry signs issuer serial r nonce line u.0 c utf8 asks kept is_nonce is_signature u.1 u.2 fits
built_is_entry signs issuer serial r nonce rose (Err e) fits kept bytes len is_signature built line utf8 asks = tt
