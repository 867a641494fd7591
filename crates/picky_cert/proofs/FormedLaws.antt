-- What is signed is of a well-formed certificate, and a certificate that is kept has a line.
use Rattle.std.specs.Prelude.{◌≡◌, ◌<◌, ◌^◌, true, List, ℕ, length, Ok}
use Rattle.std.proofs.Common.{sym, arith, refl}
use Rattle.std.proofs.lemmas.Bool.{lt-ltb, ltb-true}
use Rattle.picky_wire_base.specs.carried.Outcome.{passed_ok}
use Rattle.picky_keys.specs.LineRefusal.{is_short}
use Rattle.picky_keys.proofs.LineLaws.{chosen}
use Rattle.picky_cert_parts.specs.declared.error.SshCertificateError.TheVariants as errors
use Rattle.picky_cert_blob.specs.Subject.{fits_subject}
use Rattle.picky_cert_blob.proofs.SubjectLaws.{fits_where_kind}
use Rattle.picky_cert.specs.declared.certificate.SshCertificate.{SshCertificate}
use Rattle.picky_cert.specs.Certificate.{said}
use Rattle.picky_cert.specs.Keeps.{IsWellFormed}
use Rattle.picky_cert.specs.Line.{IsReadBackCertificate}
use Rattle.picky_cert.specs.LineRefusal.{cert_line_text, signed_text}
use Rattle.picky_cert.specs.Spelled.{cert_line_of, signed_of}
use Rattle.picky_cert.proofs.WrittenLemmas.{extensions_within, grants_within, issuer_within, options_within, principals_within}
use Rattle.picky_cert.proofs.WrittenLemmas.{terms_within}

-- each list and the issuer's blob are within what is signed
pub short_is_formed : (c : SshCertificate) → fits_subject c.cert_key_type c.public_key.inner_key ≡ true
    → length (signed_of c) < 2 ^ 32 → IsWellFormed c
short_is_formed c fits short =
    let b = said c in
    let terms = terms_within c in
    let grants = grants_within c in
    record {
      fits = (fits_where_kind c.cert_key_type c.public_key.inner_key).0 fits;
      principals = omega (arith, short, terms, principals_within b.terms);
      options = omega (arith, short, grants, options_within b.grants);
      extensions = omega (arith, short, grants, extensions_within b.grants);
      issuer = omega (arith, short, grants, issuer_within b.grants);
    }

-- What is signed is of a well-formed certificate.
pub signed_is_formed : (c : SshCertificate) (bytes : List ℕ) → signed_text c ≡ Ok bytes → IsWellFormed c
unfolding signed_text
signed_is_formed c bytes is =
    let subject = chosen (fits_subject c.cert_key_type c.public_key.inner_key) _ errors.SubjectMismatch bytes is in
    let passed = passed_ok (is_short (signed_of c)) errors.TooLong (signed_of c) bytes subject.1 in
    short_is_formed c subject.0 (ltb-true (length (signed_of c)) (2 ^ 32) passed.0)

-- A certificate whose line is read back has one.
pub kept_is_written : (c : SshCertificate) → IsReadBackCertificate c → cert_line_text c ≡ Ok (cert_line_of c)
unfolding cert_line_text
kept_is_written c kept =
    let fits = (fits_where_kind c.cert_key_type c.public_key.inner_key).1 kept.formed.fits in
    rw (fits, kept.signed, lt-ltb (length (cert_line_of c)) (2 ^ 32) kept.short) refl
