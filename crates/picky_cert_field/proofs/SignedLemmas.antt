-- What is signed of a certificate's line.
use Rattle.std.proofs.Common.{◌≡◌, ◌<◌, ◌^◌, ◌&&◌, ℕ, List, length, Result, Ok, Err}
use Rattle.std.proofs.Common.{IsOk, refl, ap, inl, inr}
use Rattle.std.proofs.lemmas.Bool.{and_parts, cases_Bool, ltb-true}
use Rattle.std.specs.Prelude.{is_ok}
use Rattle.picky_wire_base.specs.Flaw.{Why}
use Rattle.picky_wire_base.specs.Outcome.{and_then, map_err}
use Rattle.picky_text.specs.Words.{body_word, first_word}
use Rattle.picky_keys.specs.LineRefusal.{comment_text, is_short, is_short_text}
use Rattle.picky_cert_blob.specs.Reason.{CertReason, cert_why_in}
use Rattle.picky_cert.specs.Certificate.{certificate}
use Rattle.picky_cert.specs.CertRefusal.{cert_error}
use Rattle.picky_cert.specs.LineRefusal.{blob_certificate, body_certificate, cert_line_meaning, word_type, cert_words_meaning}
use Rattle.picky_cert.specs.declared.certificate.SshCertificate.{SshCertificate}

ok_first : {A B E : Type 0} (first : Result A E) (next : A → Result B E) → IsOk (and_then first next)
    → (x : A) × (first ≡ Ok x) × IsOk (next x)
ok_first (Ok x) next is = (x, refl, is)
ok_first (Err e) next is = absurd (cc is)

ok_is : {A E : Type 0} (r : Result A E) (x : A) → r ≡ Ok x → IsOk r
ok_is r x is = ap is_ok is

-- a line that is read says a short body, of a certificate
pub line_has_body : (text : List ℕ) → IsOk (cert_line_meaning text)
    → (length (body_word text) < 2 ^ 32) × IsOk (body_certificate (body_word text))
unfolding cert_line_meaning cert_words_meaning
line_has_body text is =
    let first = ok_first (word_type (first_word text)) _ is in
    elim (cases_Bool (is_short (body_word text) && is_short_text (comment_text text))) [
      | inl short ↦
          let rest = rw short at first.2 in
          let read = ok_first (body_certificate (body_word text)) _ rest in
          let parts = and_parts (is_short (body_word text)) (is_short_text (comment_text text)) short in
          (ltb-true (length (body_word text)) (2 ^ 32) parts.0, ok_is (body_certificate (body_word text)) read.0 read.1)
      | inr long ↦ absurd (cc (rw long at first.2))
    ]

-- a blob that is refused is no certificate's
read_refused : (read : Result (SshCertificate × List ℕ) CertReason) (why : Why) → map_err cert_why_in read ≡ Err why
    → IsOk (map_err cert_error (and_then read (λ found. Ok found.0))) → ⊥
read_refused (Ok found) why refused is = cc refused
read_refused (Err reason) why refused is = cc is

pub blob_refused : (blob : List ℕ) (why : Why) → map_err cert_why_in (certificate.read blob) ≡ Err why
    → IsOk (blob_certificate blob) → ⊥
unfolding blob_certificate
blob_refused blob why refused is = read_refused (certificate.read blob) why refused is
