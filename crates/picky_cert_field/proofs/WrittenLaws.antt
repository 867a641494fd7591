-- The fields of a line that was written.
use Rattle.std.specs.Prelude.{◌≡◌, ◌<◌, ◌^◌, ◌++◌, ◌∷◌, [], ℕ, List, Ok, IsUtf8, length}
use Rattle.std.proofs.Common.{arith, subst, suc, zero, ◌∙◌}
use Rattle.std.specs.Str.{IsAscii}
use Rattle.std.proofs.lemmas.Bool.{ltb-true}
use Rattle.std.proofs.lemmas.List.{append-nil}
use Rattle.std.proofs.lemmas.Str.{IsUtf8-append, IsUtf8-from_ascii}
use Rattle.picky_wire_base.specs.carried.Outcome.{passed_ok}
use Rattle.picky_text.specs.Base64.{base64_of}
use Rattle.picky_text.specs.Words.{AreParts, body_word}
use Rattle.picky_text.specs.declared.lines.LineEnd.TheVariants.{CrLf}
use Rattle.picky_text.proofs.Base64Laws.{base64_is_ascii}
use Rattle.picky_text.proofs.WordLaws.{base64_is_word, key_line_is_read_back}
use Rattle.picky_keys.specs.LineRefusal.{is_short}
use Rattle.picky_keys.proofs.ByteLaws.{utf8_is_bytes}
use Rattle.picky_keys.proofs.LineLaws.{chosen}
use Rattle.picky_cert_parts.specs.CertNames.{cert_key_type_name}
use Rattle.picky_cert_parts.specs.Signature.{blob_fits, signature_of}
use Rattle.picky_cert_parts.specs.declared.error.SshCertificateError.TheVariants as errors
use Rattle.picky_cert_parts.specs.declared.error.SshSignatureError.TheVariants as signatures
use Rattle.picky_cert_parts.proofs.TypeNameLaws.{cert_key_type_name_utf8}
use Rattle.picky_cert_blob.specs.Subject.{fits_subject}
use Rattle.picky_cert.specs.Certificate.{signed_in}
use Rattle.picky_cert.specs.Line.{IsReadBackCertificate}
use Rattle.picky_cert.specs.LineRefusal.{cert_line_meaning, cert_line_text}
use Rattle.picky_cert.specs.Spelled.{cert_blob_of, cert_line_of, signed_of}
use Rattle.picky_cert.specs.declared.certificate.SshCertificate.{SshCertificate}
use Rattle.picky_cert.proofs.ByteLaws.{blob_bytes}
use Rattle.picky_cert.proofs.CanonicalLaws.{text_is_kept}
use Rattle.picky_cert.proofs.ReadBackLaws.{line_reads_back, type_name_is_word}
use Rattle.picky_cert.proofs.SignedLaws.{written_is_seen}
use Rattle.picky_cert_field.specs.declared.field.CertField.{CertField}
use Rattle.picky_cert_field.specs.Fields.{field_in, field_of, signed_in_line}
use Rattle.picky_cert_field.proofs.FieldLaws.{meant_field, signed_is}

space_is_ascii : IsAscii (32 ∷ [])
space_is_ascii zero = omega arith
space_is_ascii (suc k) = omega arith

end_is_ascii : IsAscii (13 ∷ 10 ∷ [])
end_is_ascii zero = omega arith
end_is_ascii (suc zero) = omega arith
end_is_ascii (suc (suc k)) = omega arith

behind_space : (text : List ℕ) → IsUtf8 text → IsUtf8 (32 ∷ text)
behind_space text utf8 = IsUtf8-append (32 ∷ []) text (IsUtf8-from_ascii (32 ∷ []) space_is_ascii) utf8

-- the line that is written is text
written_is_text : (c : SshCertificate) → IsReadBackCertificate c → IsUtf8 (cert_line_of c)
unfolding cert_line_of
written_is_text c kept =
    let name : List ℕ = cert_key_type_name c.cert_key_type in
    let body : List ℕ = base64_of (cert_blob_of c) in
    let words = IsUtf8-append name (32 ∷ body) (cert_key_type_name_utf8 c.cert_key_type)
    (behind_space body (IsUtf8-from_ascii body (base64_is_ascii (cert_blob_of c)))) in
    let front = IsUtf8-append (name ++ 32 ∷ body) (32 ∷ c.comment) words (behind_space c.comment kept.utf8) in
    IsUtf8-append (name ++ 32 ∷ body ++ 32 ∷ c.comment) (13 ∷ 10 ∷ []) front (IsUtf8-from_ascii (13 ∷ 10 ∷ []) end_is_ascii)

-- and its body says the bytes that are written
written_body : (c : SshCertificate) → IsReadBackCertificate c → body_word (cert_line_of c) ≡ base64_of (cert_blob_of c)
unfolding cert_line_of
written_body c kept =
    let body : List ℕ = base64_of (cert_blob_of c) in
    let parts : AreParts (cert_key_type_name c.cert_key_type) body c.comment = record {
      name_word = type_name_is_word c.cert_key_type;
      body_word = base64_is_word (cert_blob_of c) (blob_bytes c kept.is);
      no_cr = kept.no_cr;
      no_lf = kept.no_lf;
      trimmed = kept.trimmed;
    } in
    let read = key_line_is_read_back (cert_key_type_name c.cert_key_type) body c.comment parts CrLf [] in
    read.body_is

-- what is signed of it is what is written for that
blob_signed : (c : SshCertificate) → IsReadBackCertificate c → signed_in (cert_blob_of c) ≡ signed_of c
unfolding cert_blob_of
blob_signed c kept = written_is_seen c (signature_of c.signature) kept.is kept.formed

written_signed : (c : SshCertificate) → IsReadBackCertificate c → signed_in_line (cert_line_of c) ≡ signed_of c
written_signed c kept =
    signed_is (cert_line_of c) (cert_blob_of c) (blob_bytes c kept.is) (written_body c kept) ∙ blob_signed c kept

pub kept_fields : (field : CertField) (c : SshCertificate) (place : ℕ) → IsReadBackCertificate c
    → field_in field (cert_line_of c) place ≡ field_of field c (signed_of c) place
kept_fields field c place kept =
    let whole = subst (λ l. cert_line_meaning l ≡ Ok c) (append-nil (cert_line_of c)) (line_reads_back c [] kept) in
    meant_field field (cert_line_of c) place c (signed_of c) (written_is_text c kept) whole (written_signed c kept)

-- the text that is written is short, and the one spelling
written_text : (c : SshCertificate) (line : List ℕ) → cert_line_text c ≡ Ok line → (length (cert_line_of c) < 2 ^ 32) × (cert_line_of c ≡ line)
unfolding cert_line_text
written_text c line is =
    let subject = chosen (fits_subject c.cert_key_type c.public_key.inner_key) _ errors.SubjectMismatch line is in
    let format = chosen (blob_fits c.signature.format c.signature.blob) _ (errors.SshSignatureError signatures.BlobMismatch) line
    subject.1 in
    let passed = passed_ok (is_short (cert_line_of c)) errors.TooLong (cert_line_of c) line format.1 in
    (ltb-true (length (cert_line_of c)) (2 ^ 32) passed.0, passed.1)

pub written_fields : (field : CertField) (text : List ℕ) (c : SshCertificate) (line : List ℕ) (place : ℕ) → IsUtf8 text
    → cert_line_meaning text ≡ Ok c → cert_line_text c ≡ Ok line
    → field_in field line place ≡ field_of field c (signed_of c) place
written_fields field text c line place utf8 means writes =
    let written = written_text c line writes in
    let kept = text_is_kept text c (utf8_is_bytes text utf8) means written.0 in
    subst (λ l. field_in field l place ≡ field_of field c (signed_of c) place) written.1 (kept_fields field c place kept)

pub ruleset written_laws = (kept_fields, written_fields)
