-- A certificate's line that is written is read back.
use Rattle.std.specs.Prelude.{◌≡◌, false, List, [], ◌∷◌, ℕ, ◌++◌, ◌+◌, ◌<◌, ◌^◌, length, Ok, ◌==◌, IsUtf8}
use Rattle.std.specs.List.{after_first, list_any}
use Rattle.std.proofs.Common.{sym, ◌∙◌, ap, subst, refl, arith, append_assoc}
use Rattle.std.proofs.lemmas.Bool.{lt-ltb}
use Rattle.std.proofs.lemmas.List.{append-nil, length-append}
use Rattle.picky_text.proofs.ListLaws.{all_append, cut_at_first}
use Rattle.picky_text.specs.Base64.{base64_of}
use Rattle.picky_text.specs.declared.lines.LineEnd.TheVariants.{CrLf}
use Rattle.picky_text.specs.Words.{ends_line, line_in_front, AreParts, HasParts, IsWord}
use Rattle.picky_text.proofs.WordLaws.{base64_is_word, key_line_alone, key_line_is_read_back, stays_line}
use Rattle.picky_keys.specs.SourceLine.{after_line, read_line, Stays}
use Rattle.picky_keys.proofs.ByteLaws.{no_by_test}
use Rattle.picky_cert_parts.specs.declared.cert_key_type.SshCertKeyType.{SshCertKeyType}
use Rattle.picky_cert_parts.specs.declared.cert_key_type.SshCertKeyType.TheVariants as keytypes
use Rattle.picky_cert_parts.specs.CertNames.{cert_key_type_name}
use Rattle.picky_cert_parts.specs.Signature.{total_of}
use Rattle.picky_cert.specs.declared.certificate.SshCertificate.{SshCertificate}
use Rattle.picky_cert.specs.Certificate.{certified, said}
use Rattle.picky_cert.specs.Line.{IsCertificateLine, IsReadBackCertificate}
use Rattle.picky_cert.specs.LineRefusal.{cert_line_meaning}
use Rattle.picky_cert.specs.SourceLine.{cert_source_meaning}
use Rattle.picky_cert.specs.Spelled.{cert_blob_of, cert_line_of}
use Rattle.picky_cert.proofs.ByteLaws.{blob_bytes}
use Rattle.picky_cert.proofs.LineLaws.{line_meaning_of}
use Rattle.picky_cert.proofs.WrittenLaws.{certificate_spells}
use Rattle.picky_cert.proofs.WrittenLemmas.{blob_within, signature_within, total_within}

-- ---- names

-- a word by its tests
word_by_test : (bytes : List ℕ) → list_any (λ c. c == 32) bytes ≡ false
    → list_any (λ c. c == 13) bytes ≡ false → list_any (λ c. c == 10) bytes ≡ false → IsWord bytes
word_by_test bytes space cr lf = (no_by_test 32 bytes space, no_by_test 13 bytes cr, no_by_test 10 bytes lf)

-- each name of a type is a word
pub type_name_is_word : (t : SshCertKeyType) → IsWord (cert_key_type_name t)
unfolding cert_key_type_name
type_name_is_word keytypes.SshRsaV01 = word_by_test (cert_key_type_name keytypes.SshRsaV01) refl refl refl
type_name_is_word keytypes.SshDssV01 = word_by_test (cert_key_type_name keytypes.SshDssV01) refl refl refl
type_name_is_word keytypes.RsaSha2_256V01 = word_by_test (cert_key_type_name keytypes.RsaSha2_256V01) refl refl refl
type_name_is_word keytypes.RsaSha2_512v01 = word_by_test (cert_key_type_name keytypes.RsaSha2_512v01) refl refl refl
type_name_is_word keytypes.EcdsaSha2Nistp256V01 = word_by_test (cert_key_type_name keytypes.EcdsaSha2Nistp256V01) refl refl refl
type_name_is_word keytypes.EcdsaSha2Nistp384V01 = word_by_test (cert_key_type_name keytypes.EcdsaSha2Nistp384V01) refl refl refl
type_name_is_word keytypes.EcdsaSha2Nistp521V01 = word_by_test (cert_key_type_name keytypes.EcdsaSha2Nistp521V01) refl refl refl
type_name_is_word keytypes.SshEd25519V01 = word_by_test (cert_key_type_name keytypes.SshEd25519V01) refl refl refl
type_name_is_word keytypes.SkSshSha2Nistp256V01 = word_by_test (cert_key_type_name keytypes.SkSshSha2Nistp256V01) refl refl refl
type_name_is_word keytypes.SkSshEd25519V01 = word_by_test (cert_key_type_name keytypes.SkSshEd25519V01) refl refl refl

-- ---- the line that is written

abbrev line_body : SshCertificate → List ℕ
line_body c = base64_of (cert_blob_of c)

part_lengths : (c : SshCertificate) → length (cert_line_of c)
    ≡ length (cert_key_type_name c.cert_key_type) + (1 + length (line_body c)) + (1 + length c.comment) + 2
unfolding cert_line_of
part_lengths c = simp length-append (omega arith)

line_parts : (c : SshCertificate) → IsReadBackCertificate c
    → AreParts (cert_key_type_name c.cert_key_type) (line_body c) c.comment
line_parts c kept = record {
  name_word = type_name_is_word c.cert_key_type;
  body_word = base64_is_word (cert_blob_of c) (blob_bytes c kept.is);
  no_cr = kept.no_cr;
  no_lf = kept.no_lf;
  trimmed = kept.trimmed;
}

-- a line of a certificate's parts says the certificate
parts_say : (c : SshCertificate) (line : List ℕ) → IsReadBackCertificate c
    → HasParts line (cert_key_type_name c.cert_key_type) (line_body c) c.comment → IsCertificateLine line c
parts_say c line kept is =
    let len = part_lengths c in
    let short : total_of c.signature < 2 ^ 32 =
    omega (arith, kept.short, total_within c.signature, signature_within c, blob_within c) in
    record {
      key_type = c.cert_key_type;
      name = is.name_is;
      blob_bytes = cert_blob_of c;
      are_bytes = blob_bytes c kept.is;
      body = is.body_is;
      body_short = subst (λ w. length w < 2 ^ 32) (sym is.body_is) (omega (arith, kept.short, len));
      rest = [];
      fits = (cert_blob_of c, certificate_spells c kept.is kept.formed kept.signed short, sym (append-nil (cert_blob_of c)));
      bare = kept.bare ∙ ap (λ l. record (certified (said c) c.signature) { comment = l }) (sym is.comment_is);
      comment_utf8 = subst IsUtf8 (sym is.line_is) kept.utf8;
      comment_short = subst (λ w. length w < 2 ^ 32) (sym is.comment_is) (omega (arith, kept.short, len));
    }

-- The line that is written says the certificate, whatever follows it.
pub line_says : (c : SshCertificate) (more : List ℕ) → IsReadBackCertificate c → IsCertificateLine (cert_line_of c ++ more) c
unfolding cert_line_of
line_says c more kept =
    let name : List ℕ = cert_key_type_name c.cert_key_type in
    let is = key_line_is_read_back name (line_body c) c.comment (line_parts c kept) CrLf more in
    rw (append_assoc (name ++ 32 ∷ line_body c ++ 32 ∷ c.comment) (13 ∷ 10 ∷ []) more) (parts_say c _ kept is)

-- It is read back.
pub line_reads_back : (c : SshCertificate) (more : List ℕ) → IsReadBackCertificate c → cert_line_meaning (cert_line_of c ++ more) ≡ Ok c
line_reads_back c more kept = line_meaning_of (cert_line_of c ++ more) c (line_says c more kept)

-- ---- from a source

-- the line without its end
abbrev line_front : SshCertificate → List ℕ
line_front c = cert_key_type_name c.cert_key_type ++ 32 ∷ line_body c ++ 32 ∷ c.comment

front_reads_back : (c : SshCertificate) → IsReadBackCertificate c → cert_line_meaning (line_front c) ≡ Ok c
front_reads_back c kept =
    let is = key_line_alone (cert_key_type_name c.cert_key_type) (line_body c) c.comment (line_parts c kept) in
    line_meaning_of (line_front c) c (parts_say c (line_front c) kept is)

front_stays : (c : SshCertificate) → IsReadBackCertificate c → Stays (line_front c)
front_stays c kept =
    let goes_on : ℕ → Type 0 = λ b. ends_line b ≡ false in
    let parts = line_parts c kept in
    let name : List ℕ = cert_key_type_name c.cert_key_type in
    let words = all_append goes_on name (32 ∷ line_body c) (stays_line name parts.name_word.1 parts.name_word.2)
    (refl, stays_line (line_body c) parts.body_word.1 parts.body_word.2) in
    all_append goes_on (name ++ 32 ∷ line_body c) (32 ∷ c.comment) words (refl, stays_line c.comment kept.no_cr kept.no_lf)

-- It is read back from a source: CR ends it, and LF and what follows are left.
pub source_reads_back : (c : SshCertificate) (more : List ℕ) → IsReadBackCertificate c
    → cert_source_meaning (cert_line_of c ++ more) ≡ Ok (c, 10 ∷ more)
unfolding cert_source_meaning read_line after_line cert_line_of
source_reads_back c more kept =
    let front : List ℕ = line_front c in
    let whole = append_assoc front (13 ∷ 10 ∷ []) more in
    let cut = cut_at_first ends_line front 13 (10 ∷ more) (front_stays c kept) refl in
    let line = ap line_in_front whole ∙ cut.before in
    let after = ap (after_first ends_line) whole ∙ cut.after in
    let short : length front < 2 ^ 32 = omega (arith, kept.short, length-append front (13 ∷ 10 ∷ [])) in
    rw (line, lt-ltb (length front) (2 ^ 32) short, front_reads_back c kept, after) refl

pub ruleset read_back_laws = (line_reads_back, source_reads_back)
