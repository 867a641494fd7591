-- A certificate's line, and what stands before its CR LF.
use Rattle.std.proofs.Common.{◌≡◌, ℕ, ◌+◌, ◌<◌, ◌≤◌, ◌^◌, ◌++◌, List, [], ◌∷◌, false, length, Ok, Err}
use Rattle.std.proofs.Common.{refl, sym, ◌∙◌, ap, arith, inl, inr}
use Rattle.std.specs.Str.{bytes_eq}
use Rattle.std.proofs.lemmas.Bool.{cases_Bool, cases_lt}
use Rattle.std.proofs.lemmas.List.{append_assoc, length-append}
use Rattle.std.proofs.lemmas.Slice.Eq.{bytes_eq-Decides}
use Rattle.picky_wire_base.specs.carried.Outcome.{passed_ok}
use Rattle.picky_text.specs.Base64.{base64_of}
use Rattle.picky_text.specs.declared.lines.LineEnd.TheVariants.{CrLf}
use Rattle.picky_text.specs.Words.{AreParts, HasParts, rest_text}
use Rattle.picky_text.proofs.WordLaws.{base64_is_word, key_line_alone, key_line_is_read_back}
use Rattle.picky_keys.specs.LineRefusal.{is_short}
use Rattle.picky_keys.proofs.LineLaws.{chosen}
use Rattle.picky_cert_parts.specs.declared.error.SshCertificateError.{SshCertificateError}
use Rattle.picky_cert_parts.specs.declared.error.SshCertificateError.TheVariants as errors
use Rattle.picky_cert_parts.specs.declared.error.SshSignatureError.TheVariants as signatures
use Rattle.picky_cert_parts.specs.CertNames.{cert_key_type_name}
use Rattle.picky_cert_parts.specs.Signature.{blob_fits}
use Rattle.picky_cert_blob.specs.Subject.{fits_subject}
use Rattle.picky_cert.specs.declared.certificate.SshCertificate.{SshCertificate}
use Rattle.picky_cert.specs.Line.{IsReadBackCertificate}
use Rattle.picky_cert.specs.LineRefusal.{cert_line_meaning, cert_line_text}
use Rattle.picky_cert.specs.Spelled.{cert_blob_of, cert_line_of}
use Rattle.picky_cert.proofs.ByteLaws.{blob_bytes}
use Rattle.picky_cert.proofs.FormedLaws.{kept_is_written}
use Rattle.picky_cert.proofs.ReadBackLaws.{line_reads_back, type_name_is_word}
use Rattle.picky_ledger.specs.declared.entry.Entry.{Entry}
use Rattle.picky_ledger.specs.Entry.{entry_front, entry_line, front_of}

-- CR LF ends it
pub line_is_front : (c : SshCertificate) → cert_line_of c ≡ front_of c ++ 13 ∷ 10 ∷ []
unfolding cert_line_of front_of
line_is_front c = refl

pub line_length : (c : SshCertificate) → length (cert_line_of c) ≡ length (front_of c) + 2
line_length c = ap length (line_is_front c) ∙ length-append (front_of c) (13 ∷ 10 ∷ [])

-- an entry's line is longer
pub line_within_entry : (e : Entry) → length (cert_line_of e.certificate) ≤ length (entry_line e)
unfolding entry_line entry_front
line_within_entry e =
    let c : SshCertificate = e.certificate in
    let word : List ℕ = base64_of e.request in
    let behind : List ℕ = word ++ 32 ∷ front_of c in
    omega (
      arith,
      line_length c,
      length-append (e.id ++ 32 ∷ behind) (10 ∷ []),
      length-append e.id (32 ∷ behind),
      length-append word (32 ∷ front_of c),
    )

-- a line that is too long is no short text's
pub too_long_for : (c : SshCertificate) (text : List ℕ) → 2 ^ 32 ≤ length (cert_line_of c) → length text + 2 < 2 ^ 32
    → bytes_eq (front_of c) text ≡ false
too_long_for c text long short = elim (cases_Bool (bytes_eq (front_of c) text)) [
  | inl is ↦
      let same : front_of c ≡ text = (bytes_eq-Decides (front_of c) text).0 is in
      absurd (omega (arith, long, short, line_length c, ap length same))
  | inr other ↦ other
]

-- ---- what is written

-- what is written is the line
pub written_is_line : (c : SshCertificate) (line : List ℕ) → cert_line_text c ≡ Ok line → line ≡ cert_line_of c
unfolding cert_line_text
written_is_line c line is =
    let subject = chosen (fits_subject c.cert_key_type c.public_key.inner_key) _ errors.SubjectMismatch line is in
    let format = chosen (blob_fits c.signature.format c.signature.blob) _ (errors.SshSignatureError signatures.BlobMismatch) line
    subject.1 in
    sym (passed_ok (is_short (cert_line_of c)) errors.TooLong (cert_line_of c) line format.1).1

-- where a short line would be read back, the line alone can be too long
pub unwritten_is_long : (c : SshCertificate) (e : SshCertificateError) → (length (cert_line_of c) < 2 ^ 32 → IsReadBackCertificate c)
    → cert_line_text c ≡ Err e → 2 ^ 32 ≤ length (cert_line_of c)
unwritten_is_long c e kept refused = elim (cases_lt (length (cert_line_of c)) (2 ^ 32)) [
  | inl short ↦
      let never : Ok (cert_line_of c) ≡ Err e = sym (kept_is_written c (kept short)) ∙ refused in
      absurd (cc never)
  | inr long ↦ long
]

-- ---- what is read

-- lines of the same parts mean the same
same_parts : (text other name body comment : List ℕ) → HasParts text name body comment → HasParts other name body comment
    → cert_line_meaning text ≡ cert_line_meaning other
unfolding cert_line_meaning rest_text
same_parts text other name body comment one two = cc

-- what stands before its CR LF is read back as well
pub front_reads_back : (c : SshCertificate) → IsReadBackCertificate c → cert_line_meaning (front_of c) ≡ Ok c
unfolding front_of cert_line_of
front_reads_back c kept =
    let name : List ℕ = cert_key_type_name c.cert_key_type in
    let body : List ℕ = base64_of (cert_blob_of c) in
    let parts : AreParts name body c.comment = record {
      name_word = type_name_is_word c.cert_key_type;
      body_word = base64_is_word (cert_blob_of c) (blob_bytes c kept.is);
      no_cr = kept.no_cr;
      no_lf = kept.no_lf;
      trimmed = kept.trimmed;
    } in
    let front : List ℕ = name ++ 32 ∷ body ++ 32 ∷ c.comment in
    let ended : List ℕ = front ++ (13 ∷ 10 ∷ [] ++ []) in
    same_parts front ended name body c.comment (key_line_alone name body c.comment parts)
    (key_line_is_read_back name body c.comment parts CrLf [])
    ∙ ap cert_line_meaning (sym (append_assoc front (13 ∷ 10 ∷ []) []))
    ∙ line_reads_back c [] kept

-- what the code that reads and writes lines stands on
pub ruleset lines = (line_is_front, line_within_entry, too_long_for, written_is_line, unwritten_is_long)
