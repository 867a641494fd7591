-- A line that was read, however it was spelled, is written in its one spelling, which is read back as the same certificate.
use Rattle.std.specs.{Prelude.{◌≡◌, true, List, [], ◌∷◌, ℕ, ◌++◌, ◌<◌, ◌^◌, length, Ok}, List.{position_or_len}}
use Rattle.std.proofs.{Common.{sym, ◌∙◌, ap, subst, refl, arith}, lemmas.Bool.{ltb-true}, lemmas.List.{append-nil}}
use Rattle.picky_wire_base.specs.{carried.Outcome.{and_then_ok, passed_ok, same_pair}, Numbers.{IsBytes}}
use Rattle.picky_wire_base.proofs.Numbers.{bytes_behind, bytes_in_front, front_bytes}
use Rattle.picky_text.specs.Words.{ends_line, line_in_front, after_body, comment_of}
use Rattle.picky_text.proofs.WordLaws.{rest_has_no_cr, rest_has_no_lf, rest_is_trimmed, rest_of_line_is_text}
use Rattle.picky_keys.specs.{LineRefusal.{is_short}, SourceLine.{read_line}}
use Rattle.picky_keys.proofs.LineLaws.{chosen}
use Rattle.picky_cert_parts.specs.declared.error.SshCertificateError.TheVariants as errors
use Rattle.picky_cert_parts.specs.declared.error.SshSignatureError.TheVariants as signatures
use Rattle.picky_cert_parts.specs.{CertFromWire.{certificate_error}, declared.signature.SshSignature.{SshSignature}}
use Rattle.picky_cert_parts.specs.Signature.{blob_fits, signature}
use Rattle.picky_cert_parts.proofs.SpellingLaws.{signature_fits}
use Rattle.picky_cert_blob.specs.{Layout.{signature_part}, Subject.{fits_subject}}
use Rattle.picky_cert.specs.declared.certificate.SshCertificate.{SshCertificate}
use Rattle.picky_cert.specs.{Certificate.{certificate, certified, said}, Keeps.{IsWellFormed}}
use Rattle.picky_cert.specs.{Line.{IsCertificateLine, IsReadBackCertificate}, LineRefusal.{cert_line_meaning, cert_line_text}}
use Rattle.picky_cert.specs.{SourceLine.{cert_source_meaning}, Spelled.{cert_line_of}}
use Rattle.picky_cert.proofs.{KeepLaws.{cert_piece}, LineLaws.{line_fits_subject, line_keeps, line_meaning_says}}
use Rattle.picky_cert.proofs.ReadBackLaws.{line_reads_back, source_reads_back}
use Rattle.picky_cert.proofs.WrittenLemmas.{blob_within, extensions_within, grants_within, issuer_within, options_within}
use Rattle.picky_cert.proofs.WrittenLemmas.{principals_within, signed_within, terms_within}

-- ---- what a line says

-- the signature's blob is of its format
signature_part_fits : (s : SshSignature) (bytes : List ℕ) → IsBytes bytes → signature_part.piece s bytes
    → blob_fits s.format s.blob ≡ true
unfolding signature_part
signature_part_fits s bytes each spells =
    signature_fits (bytes ++ []) s [] (subst IsBytes (sym (append-nil bytes)) each) (signature.complete s bytes [] spells)

spelled_fits : (c : SshCertificate) (bytes : List ℕ) → IsBytes bytes → certificate.piece c bytes
    → blob_fits c.signature.format c.signature.blob ≡ true
spelled_fits c bytes each spells =
    let piece = cert_piece c bytes spells in
    let behind = bytes_behind piece.signed piece.behind (subst IsBytes piece.are each) in
    signature_part_fits c.signature piece.behind behind piece.signature

line_fits_format : (text : List ℕ) (c : SshCertificate) → IsCertificateLine text c
    → blob_fits c.signature.format c.signature.blob ≡ true
line_fits_format text c line =
    let front = bytes_in_front line.fits.0 line.rest (subst IsBytes line.fits.2 line.are_bytes) in
    spelled_fits (certified (said c) c.signature) line.fits.0 front line.fits.1

-- each list and the issuer's blob are within the line, which is short
line_is_formed : (text : List ℕ) (c : SshCertificate) → IsCertificateLine text c → length (cert_line_of c) < 2 ^ 32 → IsWellFormed c
line_is_formed text c line short =
    let b = said c in
    let signed = signed_within c in
    let blob = blob_within c in
    let terms = terms_within c in
    let grants = grants_within c in
    record {
      fits = line_fits_subject text c line;
      principals = omega (arith, short, blob, signed, terms, principals_within b.terms);
      options = omega (arith, short, blob, signed, grants, options_within b.grants);
      extensions = omega (arith, short, blob, signed, grants, extensions_within b.grants);
      issuer = omega (arith, short, blob, signed, grants, issuer_within b.grants);
    }

-- A certificate that a line says is one whose line is read back, where that is short enough to be written.
pub said_is_kept : (text : List ℕ) (c : SshCertificate) → IsCertificateLine text c → length (cert_line_of c) < 2 ^ 32
    → IsReadBackCertificate c
said_is_kept text c line short =
    let rest : List ℕ = after_body text in
    let comment : c.comment ≡ comment_of text = ap (λ v. v.comment) line.bare in
    record {
      is = line_keeps text c line;
      formed = line_is_formed text c line short;
      signed = line_fits_format text c line;
      bare = line.bare ∙ ap (λ l. record (certified (said c) c.signature) { comment = l }) (sym comment);
      no_cr = rw comment (rest_has_no_cr rest line.comment_utf8);
      no_lf = rw comment (rest_has_no_lf rest line.comment_utf8);
      trimmed = rw comment (rest_is_trimmed rest line.comment_utf8);
      utf8 = rw comment (rest_of_line_is_text rest line.comment_utf8);
      short = short;
    }

-- ---- what was read

-- the line that is written is short enough, and it is the canonical one
text_is_line : (c : SshCertificate) (line : List ℕ) → cert_line_text c ≡ Ok line → (length (cert_line_of c) < 2 ^ 32) × (cert_line_of c ≡ line)
unfolding cert_line_text
text_is_line c line is =
    let subject = chosen (fits_subject c.cert_key_type c.public_key.inner_key) _ errors.SubjectMismatch line is in
    let format = chosen (blob_fits c.signature.format c.signature.blob) _ (errors.SshSignatureError signatures.BlobMismatch) line
    subject.1 in
    let passed = passed_ok (is_short (cert_line_of c)) errors.TooLong (cert_line_of c) line format.1 in
    (ltb-true (length (cert_line_of c)) (2 ^ 32) passed.0, passed.1)

-- A certificate read from a line is one whose line is read back.
pub text_is_kept : (text : List ℕ) (c : SshCertificate) → IsBytes text → cert_line_meaning text ≡ Ok c
    → length (cert_line_of c) < 2 ^ 32 → IsReadBackCertificate c
text_is_kept text c each means short = said_is_kept text c (line_meaning_says text c each means) short

-- So is a certificate read from a source.
pub source_is_kept : (bytes : List ℕ) (c : SshCertificate) (rest : List ℕ) → IsBytes bytes
    → cert_source_meaning bytes ≡ Ok (c, rest) → length (cert_line_of c) < 2 ^ 32 → IsReadBackCertificate c
unfolding cert_source_meaning read_line
source_is_kept bytes c rest each means short =
    let taken = and_then_ok (read_line certificate_error bytes) _ (c, rest) means in
    let line_is = chosen (is_short (line_in_front bytes)) _ errors.TooLong taken.0 taken.1 in
    let same : line_in_front bytes ≡ taken.0.0 = cc line_is.1 in
    let step = and_then_ok (cert_line_meaning taken.0.0) _ (c, rest) taken.2 in
    let is = (same_pair _ step.0 c taken.0.1 rest refl step.2).0 in
    let line = front_bytes (position_or_len ends_line bytes) bytes each in
    let front : cert_line_meaning (line_in_front bytes) ≡ Ok c =
    ap cert_line_meaning same ∙ step.1 ∙ ap (λ v. Ok v) is in
    text_is_kept (line_in_front bytes) c line front short

-- What was read from a text is written as a line that is read back.
pub text_is_written : (text : List ℕ) (c : SshCertificate) (line more : List ℕ) → IsBytes text
    → cert_line_meaning text ≡ Ok c → cert_line_text c ≡ Ok line → cert_line_meaning (line ++ more) ≡ Ok c
text_is_written text c line more each means writes =
    let written = text_is_line c line writes in
    let kept = text_is_kept text c each means written.0 in
    subst (λ l. cert_line_meaning (l ++ more) ≡ Ok c) written.1 (line_reads_back c more kept)

-- So is what was read from a source.
pub source_is_written : (bytes : List ℕ) (c : SshCertificate) (rest line more : List ℕ) → IsBytes bytes
    → cert_source_meaning bytes ≡ Ok (c, rest) → cert_line_text c ≡ Ok line → cert_source_meaning (line ++ more) ≡ Ok (c, 10 ∷ more)
source_is_written bytes c rest line more each means writes =
    let written = text_is_line c line writes in
    let kept = source_is_kept bytes c rest each means written.0 in
    subst (λ l. cert_source_meaning (l ++ more) ≡ Ok (c, 10 ∷ more)) written.1 (source_reads_back c more kept)

pub ruleset canonical_laws = (text_is_written, source_is_written)
